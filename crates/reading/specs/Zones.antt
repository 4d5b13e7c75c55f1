-- What of a place in a text the tags go by.
use Rattle.std.specs.Prelude.{Bool, true, false, ℕ}
use Rattle.grammar.specs.declared.Place.{Place}
use Rattle.grammar.specs.declared.Place.TheVariants.{Content, Less, Bang, Dash, Comment, CommentDash, CommentEnd, Name, Tag, Space, Attribute, Equals, Quote, Value, Ampersand, Entity, Slash, End, Close}
use Rattle.grammar.specs.declared.Step.{Step}
use Rattle.grammar.specs.declared.Step.TheVariants.{Fault, Go, Open, Shut}
use Rattle.reading.specs.declared.Zone.{Zone}
use Rattle.reading.specs.declared.Zone.TheVariants as zones

abbrev pub zone : Place → Zone
zone Content = zones.Outside
zone Less = zones.Begun
zone Bang = zones.Outside
zone Dash = zones.Outside
zone Comment = zones.Outside
zone CommentDash = zones.Outside
zone CommentEnd = zones.Outside
zone (Name w k) = zones.InTag w
zone (Tag e x) = zones.InTag e
zone (Space e x) = zones.InTag e
zone (Attribute e x j k) = zones.InTag e
zone (Equals e x j) = zones.InTag e
zone (Quote e x j) = zones.InTag e
zone (Value e x j q v) = zones.InValue e j
zone (Ampersand e x j q) = zones.InValue e j
zone (Entity e x j q w k) = zones.InValue e j
zone Slash = zones.Slash
zone (End k) = zones.Outside
zone Close = zones.Outside

-- where a step leads
abbrev pub landing : Step → Zone
landing Fault = zones.Outside
landing (Go p u) = zone p
landing (Open u v) = zones.Outside
landing Shut = zones.Outside

abbrev pub is_begun : Zone → Bool
is_begun zones.Outside = false
is_begun zones.Begun = true
is_begun (zones.InTag e) = false
is_begun (zones.InValue e j) = false
is_begun zones.Slash = false

abbrev pub is_value : Zone → Bool
is_value zones.Outside = false
is_value zones.Begun = false
is_value (zones.InTag e) = false
is_value (zones.InValue e j) = true
is_value zones.Slash = false

-- the element that the place is in, or the one known before
abbrev pub element_in : Zone → ℕ → ℕ
element_in zones.Outside d = d
element_in zones.Begun d = d
element_in (zones.InTag e) d = e
element_in (zones.InValue e j) d = e
element_in zones.Slash d = d
