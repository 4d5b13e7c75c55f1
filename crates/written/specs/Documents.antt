-- "two documents read to equal charts exactly when they are written alike" (R-4, 4.4).
use Rattle.std.specs.Prelude.{◌≡◌, refl, Bool, true, false, cond, List, [], ℕ, zero, suc}
use Rattle.std.proofs.Common.{sym, ap, ap₂, ◌∙◌}
use Rattle.std.proofs.Math.Option.{Option, none, some}
use Rattle.definition.specs.declared.Answer.TheVariants.{Done}
use Rattle.definition.specs.Answers.{answer_no}
use Rattle.definition.specs.Rules.{keeps_rules}
use Rattle.grammar.specs.Grammar.{in_grammar, grammar_fault}
use Rattle.reading.specs.Tags.{Markup, tags_of}
use Rattle.reading.specs.Faults.{first_fault}
use Rattle.reading.specs.Content.{content_of, slots_of}
use Rattle.reading.specs.Layout.{numbers_of, names_of, Reading, faulty, refused, tables, judged, meaning, searched, read_of, content}
use Rattle.reading.specs.Print.{print}
use Rattle.laws.specs.Bools.{no}
use Rattle.laws.specs.Answers.{answer_done}
use Rattle.written.specs.Accepted.{alike}

-- ---- tables that are read keep the rules

is_tables : Reading → Bool
is_tables (faulty at) = false
is_tables (refused n) = false
is_tables (tables numbers names) = true

numbers_in : Reading → List ℕ
numbers_in (faulty at) = []
numbers_in (refused n) = []
numbers_in (tables numbers names) = numbers

names_in : Reading → List ℕ
names_in (faulty at) = []
names_in (refused n) = []
names_in (tables numbers names) = names

judged_tables : (k : ℕ) (a b numbers names : List ℕ) → judged k a b ≡ tables numbers names → (k ≡ 0) × (a ≡ numbers) × (b ≡ names)
unfolding is_tables numbers_in names_in
judged_tables zero a b numbers names h = (refl, ap numbers_in h, ap names_in h)
judged_tables (suc k) a b numbers names h = absurd (no (ap is_tables h))

meaning_accepted : (ts : List Markup) (numbers names : List ℕ) → meaning ts ≡ tables numbers names → keeps_rules numbers names ≡ Done
unfolding meaning
meaning_accepted ts numbers names h =
    let a = numbers_of (slots_of ts) (content_of ts) in
    let b = names_of (slots_of ts) in
    let k = judged_tables (answer_no (keeps_rules a b)) a b numbers names h in
    ap₂ keeps_rules (sym k.1) (sym k.2) ∙ answer_done (keeps_rules a b) k.0

-- a text that reads gives tables that keep the rules
pub read_accepted : (text numbers names : List ℕ) → read_of text ≡ tables numbers names → keeps_rules numbers names ≡ Done
unfolding read_of is_tables
read_accepted text numbers names h = by (in_grammar text) (first_fault (tags_of text)) h
  where
    by : (z : Bool) (o : Option ℕ) → cond z (searched o (tags_of text)) (faulty (grammar_fault text)) ≡ tables numbers names → keeps_rules numbers names ≡ Done
    by true none e = meaning_accepted (tags_of text) numbers names e
    by true (some at) e = absurd (no (ap is_tables e))
    by false o e = absurd (no (ap is_tables e))

-- "two documents read to equal charts exactly when they are written alike": equal charts are those of equal content
pub documents_alike : (a b numbers names others other_names : List ℕ) → read_of a ≡ tables numbers names → read_of b ≡ tables others other_names →
    (content numbers names ≡ content others other_names → print (content numbers names) ≡ print (content others other_names)) ×
    (print (content numbers names) ≡ print (content others other_names) → content numbers names ≡ content others other_names)
documents_alike a b numbers names others other_names r s =
    (λ e. ap print e, λ e. alike numbers names others other_names (read_accepted a numbers names r) (read_accepted b others other_names s) e)
