-- The grammar of the texts that are read, docs/grammar.md, as what may come next: at a place in the text, inside an element of a level, a byte
-- leads to the next place or stands in no text of the grammar. Sentences are those of request R-1, numbered 1.1 to 1.21.
-- Words, elements, attributes, entities and levels are numbers; Tables has them. 48 is no word, 4 no attribute.
use Rattle.std.specs.Prelude.{Bool, true, false, not, ◌&&◌, ◌||◌, cond, List, [], ◌∷◌, ℕ, zero, suc, ◌+◌, ◌*◌, eqb, leb, get_or, take, length}
use Rattle.grammar.specs.declared.Place.{Place}
use Rattle.grammar.specs.declared.Place.TheVariants.{Content, Less, Bang, Dash, Comment, CommentDash, CommentEnd, Name, Tag, Space, Attribute, Equals, Quote, Value, Ampersand, Entity, Slash, End, Close}
use Rattle.grammar.specs.declared.Step.{Step}
use Rattle.grammar.specs.declared.Step.TheVariants.{Fault, Go, Open, Shut}
use Rattle.grammar.specs.Tables.{words, menus, attrs, kinds, needed, opened, owners, ends, bits, adds}

-- ---- bytes

abbrev pub between : ℕ → ℕ → ℕ → Bool
between lo hi b = leb lo b && leb b hi

-- white space of XML: blank, tab, line feed, carriage return
unfoldable pub is_space : ℕ → Bool
is_space b = eqb b 32 || eqb b 10 || eqb b 9 || eqb b 13

-- "Plain ASCII only" (1.6): what XML 1.0 allows of it; any other byte stands in no text, in comments and values neither
unfoldable pub is_char : ℕ → Bool
is_char b = between 32 127 b || eqb b 10 || eqb b 9 || eqb b 13

-- "names and descriptors spelt as in document 01" (1.12): a byte of a token, which is a name byte but the dot
unfoldable pub is_token : ℕ → Bool
is_token b = between 97 122 b || between 65 90 b || between 48 57 b || eqb b 45 || eqb b 95

-- ---- words: the names of elements (1.1), attributes (1.2) and entities (1.4)

-- byte k of a word, 0 past its end
unfoldable pub word_byte : ℕ → ℕ → ℕ
word_byte w k = get_or words (w * 11 + k) 0

-- the first k bytes of both are the same
unfoldable pub agree : ℕ → ℕ → ℕ → Bool
agree w v zero = true
agree w v (suc k) = eqb (word_byte w k) (word_byte v k) && agree w v k

-- the word v goes on with b after the first k bytes of w
unfoldable pub follows : ℕ → ℕ → ℕ → ℕ → Bool
follows w v k b = eqb (word_byte v k) b && agree w v k

-- the first of n words in the menus from the place at on that goes on so, or 48
unfoldable pub pick_from : ℕ → ℕ → ℕ → ℕ → ℕ → ℕ
pick_from zero at w k b = 48
pick_from (suc n) at w k b = cond (follows w (get_or menus at 48) k b) (get_or menus at 48) (pick_from n (suc at) w k b)

-- "any other element .. is new refusal 12" (1.7): of the words that may stand at a level (the entities: row 32) the one that begins with the first k
-- bytes of w and goes on with b
unfoldable pub pick : ℕ → ℕ → ℕ → ℕ → ℕ
pick row w k b = pick_from 8 (row * 8) w k b

-- "attributes .. placed as in the Recommendation" (1.2): the word of the attribute in place j of the row of element e
unfoldable pub attribute : ℕ → ℕ → ℕ
attribute e j = get_or attrs (e * 4 + j) 48

-- is attribute j in the set x
unfoldable pub has : ℕ → ℕ → Bool
has x j = eqb (get_or bits (x * 4 + j) 1) 1

-- the set x with attribute j
unfoldable pub added : ℕ → ℕ → ℕ
added x j = get_or adds (x * 4 + j) 15

-- "any other .. attribute" (1.7): an attribute of e that is not in x yet and goes on so; 4 if there is none
unfoldable pub pick_attribute : ℕ → ℕ → ℕ → ℕ → ℕ → ℕ → ℕ → ℕ
pick_attribute zero j e x w k b = 4
pick_attribute (suc n) j e x w k b = cond (not (has x j) && follows w (attribute e j) k b) j (pick_attribute n (suc j) e x w k b)

-- a start tag may end: the attribute that its element requires is there, if it requires one
unfoldable pub is_complete : ℕ → ℕ → Bool
is_complete e x = eqb (get_or needed e 4) 4 || has x (get_or needed e 4)

-- ---- levels: which children an open element may still have

-- may an end tag stand here: not outside the root, and an initial element has its transition first
unfoldable pub may_end : ℕ → Bool
may_end t = eqb (get_or ends t 0) 1

-- the element that a level is in
unfoldable pub owner : ℕ → ℕ
owner t = get_or owners t 48

-- the level of the parent once the child e has begun: the root, an initial and its transition stand once
unfoldable pub after : ℕ → ℕ → ℕ
after t e = cond (eqb e 0) 1 (cond (eqb e 5) 3 (cond (eqb e 11) 9 t))

-- the level that e's start tag opens: a state that states its initial list as an attribute takes no initial element
unfoldable pub opens : ℕ → ℕ → ℕ
opens e x = cond (eqb e 1 && has x 1) 3 (get_or opened e 14)

-- ---- values: "names and descriptors spelt as in document 01 at any length, other values free" (1.12). Kinds of values: 0 free, 1 a name, 2 names,
-- 3 descriptors

abbrev pub is_list : ℕ → Bool
is_list kind = leb 2 kind

-- the state of a value that is names: 0 nothing yet, 1 in a token, 2 behind a dot, 3 behind a space, 4 behind a star; 5 none
unfoldable pub name_step : ℕ → ℕ → ℕ → ℕ
name_step kind v b =
    cond (is_token b && leb v 3) 1
    (cond (eqb b 46 && eqb v 1) 2
    (cond (is_space b && is_list kind && eqb v 0) 0
    (cond (is_space b && is_list kind && not (eqb v 2)) 3
    (cond (eqb b 42 && eqb kind 3 && leb v 3 && not (eqb v 1)) 4 5))))

-- a free value holds any byte but "<", the quote, and "&" that begins no entity
unfoldable pub value_step : ℕ → ℕ → ℕ → ℕ
value_step kind v b = cond (eqb kind 0) (cond (eqb b 60) 5 0) (name_step kind v b)

-- may the quote come
unfoldable pub value_ends : ℕ → ℕ → Bool
value_ends kind v = eqb kind 0 || eqb v 1 || leb 3 v

-- the kind of the value of attribute j of element e
unfoldable pub kind_of : ℕ → ℕ → ℕ
kind_of e j = get_or kinds (e * 4 + j) 0

-- ---- one byte, at each place

-- between tags: white space, or the "<" of a tag or a comment
unfoldable pub content_step : ℕ → ℕ → Step
content_step t b = cond (is_space b) (Go Content t) (cond (eqb b 60) (Go Less t) Fault)

-- k bytes of the word w are read, if there is such a word
unfoldable pub name_at : ℕ → ℕ → ℕ → Step
name_at w k t = cond (eqb w 48) Fault (Go (Name w k) t)

-- behind "<": a comment, an end tag, or the name of a child
unfoldable pub less_step : ℕ → ℕ → Step
less_step t b = cond (eqb b 33) (Go Bang t) (cond (eqb b 47 && may_end t) (Go (End 0) t) (name_at (pick t 48 0 b) 1 t))

-- behind the name or a value in a start tag
unfoldable pub tag_step : ℕ → ℕ → ℕ → ℕ → Step
tag_step e x t b =
    cond (is_space b) (Go (Space e x) t)
    (cond (eqb b 62 && is_complete e x) (Open t (opens e x))
    (cond (eqb b 47 && is_complete e x && may_end (opens e x)) (Go Slash t) Fault))

-- in a start tag's name, of which k bytes are read
unfoldable pub name_step_at : ℕ → ℕ → ℕ → ℕ → Step
name_step_at w k t b =
    cond (eqb (word_byte w k) b) (Go (Name w (k + 1)) t)
    (cond (eqb (word_byte w k) 0 && not (is_token b)) (tag_step w 0 (after t w) b) (name_at (pick t w k b) (k + 1) t))

-- k bytes of attribute j's name are read, if there is one
unfoldable pub attribute_at : ℕ → ℕ → ℕ → ℕ → ℕ → Step
attribute_at j k e x t = cond (eqb j 4) Fault (Go (Attribute e x j k) t)

-- behind white space in a start tag
unfoldable pub space_step : ℕ → ℕ → ℕ → ℕ → Step
space_step e x t b = cond (is_token b) (attribute_at (pick_attribute 4 0 e x 48 0 b) 1 e x t) (tag_step e x t b)

-- behind an attribute's name
unfoldable pub equals_step : ℕ → ℕ → ℕ → ℕ → ℕ → Step
equals_step e x j t b = cond (is_space b) (Go (Equals e x j) t) (cond (eqb b 61) (Go (Quote e x j) t) Fault)

-- in an attribute's name, of which k bytes are read
unfoldable pub attribute_step : ℕ → ℕ → ℕ → ℕ → ℕ → ℕ → Step
attribute_step e x j k t b =
    cond (eqb (word_byte (attribute e j) k) b) (Go (Attribute e x j (k + 1)) t)
    (cond (eqb (word_byte (attribute e j) k) 0 && not (is_token b)) (equals_step e x j t b)
    (attribute_at (pick_attribute 4 0 e x (attribute e j) k b) (k + 1) e x t))

-- behind "=": a value stands in either quote
unfoldable pub quote_step : ℕ → ℕ → ℕ → ℕ → ℕ → Step
quote_step e x j t b =
    cond (is_space b) (Go (Quote e x j) t) (cond (eqb b 34 || eqb b 39) (Go (Value e x j b 0) t) Fault)

-- the value goes on in state v, if there is one
unfoldable pub value_at : ℕ → ℕ → ℕ → ℕ → ℕ → ℕ → Step
value_at v e x j q t = cond (eqb v 5) Fault (Go (Value e x j q v) t)

-- in a value
unfoldable pub value_step_at : ℕ → ℕ → ℕ → ℕ → ℕ → ℕ → ℕ → Step
value_step_at e x j q v t b =
    cond (eqb b q) (cond (value_ends (kind_of e j) v) (Go (Tag e (added x j)) t) Fault)
    (cond (eqb b 38 && eqb (kind_of e j) 0) (Go (Ampersand e x j q) t) (value_at (value_step (kind_of e j) v b) e x j q t))

-- k bytes of an entity's name are read, if there is one
unfoldable pub entity_at : ℕ → ℕ → ℕ → ℕ → ℕ → ℕ → ℕ → Step
entity_at w k e x j q t = cond (eqb w 48) Fault (Go (Entity e x j q w k) t)

-- "the five predefined entities" (1.4), in free values
unfoldable pub entity_step : ℕ → ℕ → ℕ → ℕ → ℕ → ℕ → ℕ → ℕ → Step
entity_step e x j q w k t b =
    cond (eqb (word_byte w k) b) (Go (Entity e x j q w (k + 1)) t)
    (cond (eqb b 59) (cond (eqb (word_byte w k) 0) (Go (Value e x j q 0) t) Fault) (entity_at (pick 32 w k b) (k + 1) e x j q t))

-- behind an end tag's name
unfoldable pub close_step : ℕ → ℕ → Step
close_step t b = cond (is_space b) (Go Close t) (cond (eqb b 62) Shut Fault)

-- in an end tag, of whose name k bytes are read: it names the element that it closes
unfoldable pub end_step : ℕ → ℕ → ℕ → Step
end_step k t b =
    cond (eqb (word_byte (owner t) k) b) (Go (End (k + 1)) t) (cond (eqb (word_byte (owner t) k) 0) (close_step t b) Fault)

-- a byte that has to come
unfoldable pub only : ℕ → Place → ℕ → ℕ → Step
only a p t b = cond (eqb b a) (Go p t) Fault

-- a byte at a place inside an element of the level t. "comments" (1.3) are those of XML: two dashes end them
unfoldable pub step_of : Place → ℕ → ℕ → Step
step_of Content t b = content_step t b
step_of Less t b = less_step t b
step_of Bang t b = only 45 Dash t b
step_of Dash t b = only 45 Comment t b
step_of Comment t b = cond (eqb b 45) (Go CommentDash t) (Go Comment t)
step_of CommentDash t b = cond (eqb b 45) (Go CommentEnd t) (Go Comment t)
step_of CommentEnd t b = only 62 Content t b
step_of (Name w k) t b = name_step_at w k t b
step_of (Tag e x) t b = tag_step e x t b
step_of (Space e x) t b = space_step e x t b
step_of (Attribute e x j k) t b = attribute_step e x j k t b
step_of (Equals e x j) t b = equals_step e x j t b
step_of (Quote e x j) t b = quote_step e x j t b
step_of (Value e x j q v) t b = value_step_at e x j q v t b
step_of (Ampersand e x j q) t b = entity_at (pick 32 48 0 b) 1 e x j q t
step_of (Entity e x j q w k) t b = entity_step e x j q w k t b
step_of Slash t b = only 62 Content t b
step_of (End k) t b = end_step k t b
step_of Close t b = close_step t b

-- ---- a text

-- where a text has come to: no text of the grammar begins so, or a place, the innermost level, and the levels around it
pub data State : Type 0 where
  dead : State
  live : Place → ℕ → List ℕ → State

-- behind an end tag: the level around the element goes on
abbrev pub left : List ℕ → State
left [] = dead
left (u ∷ st) = live Content u st

abbrev pub moved : List ℕ → Step → State
moved st Fault = dead
moved st (Go p u) = live p u st
moved st (Open u v) = live Content v (u ∷ st)
moved st Shut = left st

unfoldable pub next : State → ℕ → State
next dead b = dead
next (live p t st) b = cond (is_char b) (moved st (step_of p t b)) dead

unfoldable pub run : State → List ℕ → State
run s [] = s
run s (b ∷ bs) = run (next s b) bs

abbrev pub start : State
start = live Content 0 []

abbrev pub is_content : Place → Bool
is_content Content = true
is_content Less = false
is_content Bang = false
is_content Dash = false
is_content Comment = false
is_content CommentDash = false
is_content CommentEnd = false
is_content (Name w k) = false
is_content (Tag e x) = false
is_content (Space e x) = false
is_content (Attribute e x j k) = false
is_content (Equals e x j) = false
is_content (Quote e x j) = false
is_content (Value e x j q v) = false
is_content (Ampersand e x j q) = false
is_content (Entity e x j q w k) = false
is_content Slash = false
is_content (End k) = false
is_content Close = false

-- a whole text ends behind the root
unfoldable pub accepts : State → Bool
accepts dead = false
accepts (live p t st) = is_content p && eqb t 1

-- "text .. of the grammar in docs/" (1.12), of any length
unfoldable pub is_text : List ℕ → Bool
is_text s = accepts (run start s)

abbrev pub is_dead : State → Bool
is_dead dead = true
is_dead (live p t st) = false

-- how many bytes of the text stand at the beginning of some text of the grammar
unfoldable pub live_bytes : State → List ℕ → ℕ
live_bytes s [] = 0
live_bytes s (b ∷ bs) = cond (is_dead (next s b)) 0 (suc (live_bytes (next s b) bs))

-- "a document of at most 32,768 bytes" (1.1)
abbrev pub most_bytes : ℕ
most_bytes = 32768

-- "other text is 12 at the first byte that no text of the grammar has there, at its end or at 32,768, whichever is first" (1.13). That these are the
-- bytes which no text of the grammar has there is the theorem `fault-first` with `fault-viable` in Viable.
unfoldable pub grammar_fault : List ℕ → ℕ
grammar_fault text = live_bytes start (take most_bytes text)

-- "Only text of at most 32,768 bytes and of the grammar .. is searched for these faults" (1.12)
unfoldable pub in_grammar : List ℕ → Bool
in_grammar text = leb (length text) most_bytes && is_text text
