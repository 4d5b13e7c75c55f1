-- The faults of a text of the grammar, by their offsets: "Every row but scxml must state an id, else 12 at its "<". A reference to an id or attribute
-- value that does not exist, or a name or descriptor over 63 bytes, is 12 at its first byte" (1.9, 1.10). No other fault is searched for (1.14).
use Rattle.std.specs.Prelude.{Bool, true, false, not, ◌&&◌, ◌||◌, cond, List, [], ◌∷◌, ◌++◌, map, ℕ, suc, ◌+◌, ◌*◌, ◌-◌, eqb, leb, ltb, length, get_or, take, drop}
use Rattle.std.proofs.Math.Option.{Option, none, some}
use Rattle.definition.specs.Rows.{same, all, flat, is_empty}
use Rattle.grammar.specs.Grammar.{is_space, is_token}
use Rattle.reading.specs.Tags.{Part, Shape, opening, empty, closing, Markup}

-- ---- values

-- an item of a list of names, with the offset of its first byte
pub record Item : Type 0 where
  pub from : ℕ
  pub bytes : List ℕ

abbrev pub goes_on : List ℕ → Bool
goes_on [] = false
goes_on (b ∷ bs) = not (is_space b)

abbrev pub grown : ℕ → ℕ → List Item → List Item
grown i b [] = (record { from = i; bytes = b ∷ [] }) ∷ []
grown i b (x ∷ xs) = (record { from = i; bytes = b ∷ x.bytes }) ∷ xs

-- the items of a value whose first byte has the offset i: what stands between white space
unfoldable pub items_at : ℕ → List ℕ → List Item
items_at i [] = []
items_at i (b ∷ bs) =
    cond (is_space b) (items_at (suc i) bs)
    (cond (goes_on bs) (grown i b (items_at (suc i) bs)) ((record { from = i; bytes = b ∷ [] }) ∷ items_at (suc i) bs))

abbrev pub item_bytes : Item → List ℕ
item_bytes x = x.bytes

abbrev pub names_in : List ℕ → List (List ℕ)
names_in v = map item_bytes (items_at 0 v)

-- "the five predefined entities" (1.4): the byte that one stands for, by its name
abbrev pub entity_byte : List ℕ → ℕ
entity_byte w = cond (same w (97 ∷ 109 ∷ 112 ∷ [])) 38 (cond (same w (108 ∷ 116 ∷ [])) 60 (cond (same w (103 ∷ 116 ∷ [])) 62 (cond (same w (113 ∷ 117 ∷ 111 ∷ 116 ∷ [])) 34 39)))

-- a value with its entities read; what is read of an entity's name
unfoldable pub decoded : Option (List ℕ) → List ℕ → List ℕ
decoded none [] = []
decoded (some w) [] = entity_byte w ∷ []
decoded none (b ∷ bs) = cond (eqb b 38) (decoded (some []) bs) (b ∷ decoded none bs)
decoded (some w) (b ∷ bs) = cond (eqb b 59) (entity_byte w ∷ decoded none bs) (decoded (some (w ++ b ∷ [])) bs)

abbrev pub plain : List ℕ → List ℕ
plain v = decoded none v

-- a name as document 01 spells it, of any length
unfoldable pub spelt : Bool → List ℕ → Bool
spelt fresh [] = not fresh
spelt fresh (b ∷ bs) = cond (is_token b) (spelt false bs) (cond (eqb b 46 && not fresh) (spelt true bs) false)

-- "cond (In('id'))" (1.2): In, an apostrophe, a name, an apostrophe, and nothing else; an apostrophe may stand as its entity

-- how many bytes of an apostrophe the value begins with
unfoldable pub apostrophe : List ℕ → ℕ
apostrophe v = cond (same (take 1 v) (39 ∷ [])) 1 (cond (same (take 6 v) (38 ∷ 97 ∷ 112 ∷ 111 ∷ 115 ∷ 59 ∷ [])) 6 0)

-- and how many bytes of names
unfoldable pub name_bytes : List ℕ → ℕ
name_bytes [] = 0
name_bytes (b ∷ bs) = cond (is_token b || eqb b 46) (suc (name_bytes bs)) 0

-- where In's name begins, its bytes, and what stands behind it
abbrev pub condition_at : List ℕ → ℕ
condition_at v = 3 + apostrophe (drop 3 v)

abbrev pub inner : List ℕ → List ℕ
inner v = take (name_bytes (drop (condition_at v) v)) (drop (condition_at v) v)

abbrev pub behind_name : List ℕ → List ℕ
behind_name v = drop (condition_at v + name_bytes (drop (condition_at v) v)) v

unfoldable pub is_condition : List ℕ → Bool
is_condition v =
    same (take 3 v) (73 ∷ 110 ∷ 40 ∷ []) && leb 1 (apostrophe (drop 3 v)) && spelt true (inner v) && leb 1 (apostrophe (behind_name v)) &&
    same (drop (apostrophe (behind_name v)) (behind_name v)) (41 ∷ [])

abbrev pub is_decimal_digit : ℕ → Bool
is_decimal_digit b = leb 48 b && leb b 57

unfoldable pub decimal_from : ℕ → List ℕ → ℕ
decimal_from n [] = n
decimal_from n (b ∷ bs) = decimal_from (n * 10 + (b - 48)) bs

abbrev pub decimal : List ℕ → ℕ
decimal v = decimal_from 0 v

abbrev pub is_decimal : ℕ → List ℕ → Bool
is_decimal most v = not (is_empty v) && all is_decimal_digit v && leb (decimal v) most

-- ---- attributes of a tag, by the words of their names (crate grammar, Tables)

abbrev pub xmlns_word : ℕ
xmlns_word = 24

abbrev pub version_word : ℕ
version_word = 25

abbrev pub id_word : ℕ
id_word = 26

abbrev pub initial_word : ℕ
initial_word = 27

abbrev pub type_word : ℕ
type_word = 28

abbrev pub event_word : ℕ
event_word = 29

abbrev pub cond_word : ℕ
cond_word = 30

abbrev pub target_word : ℕ
target_word = 31

abbrev pub label_word : ℕ
label_word = 32

abbrev pub delay_word : ℕ
delay_word = 33

abbrev pub sendid_word : ℕ
sendid_word = 34

-- is the attribute there
unfoldable pub states : ℕ → List Part → Bool
states w [] = false
states w (p ∷ ps) = eqb p.word w || states w ps

-- its value, empty where it is absent
unfoldable pub value_of : ℕ → List Part → List ℕ
value_of w [] = []
value_of w (p ∷ ps) = cond (eqb p.word w) p.bytes (value_of w ps)

-- "the attribute's part of the document, or where it is absent the part of the defaults text" (1.8): its value, or this default
abbrev pub value_or : List ℕ → ℕ → List Part → List ℕ
value_or default w ps = cond (states w ps) (value_of w ps) default

-- state, parallel, final, history
abbrev pub is_row_tag : ℕ → Bool
is_row_tag e = leb 1 e && leb e 4

abbrev pub is_closing : Shape → Bool
is_closing opening = false
is_closing empty = false
is_closing closing = true

-- the ids of the rows, in order: row i + 1 has the i-th
unfoldable pub ids_of : List Markup → List (List ℕ)
ids_of [] = []
ids_of (t ∷ ts) = cond (not (is_closing t.shape) && is_row_tag t.element) (value_of id_word t.parts ∷ ids_of ts) (ids_of ts)

unfoldable pub is_among : List ℕ → List (List ℕ) → Bool
is_among n [] = false
is_among n (m ∷ ms) = same n m || is_among n ms

-- ---- faults

abbrev pub fault_if : Bool → ℕ → List ℕ
fault_if bad at = cond bad (at ∷ []) []

-- "a name or descriptor over 63 bytes" (1.10)
abbrev pub long_fault : Item → List ℕ
long_fault x = fault_if (ltb 63 (length x.bytes)) x.from

-- "A reference to an id .. that does not exist" (1.10), or a name over 63 bytes
abbrev pub reference_fault : List (List ℕ) → Item → List ℕ
reference_fault ids x = fault_if (ltb 63 (length x.bytes) || not (is_among x.bytes ids)) x.from

abbrev pub condition_fault : List (List ℕ) → ℕ → List ℕ → List ℕ
condition_fault ids at raw =
    cond (is_condition raw) (reference_fault ids (record { from = at + condition_at raw; bytes = inner raw })) (at ∷ [])

-- "attribute value that does not exist" (1.10)

-- http://www.w3.org/2005/07/scxml
abbrev pub namespace : List ℕ
namespace =
    104 ∷ 116 ∷ 116 ∷ 112 ∷ 58 ∷ 47 ∷ 47 ∷ 119 ∷ 119 ∷ 119 ∷ 46 ∷ 119 ∷ 51 ∷ 46 ∷ 111 ∷ 114 ∷ 103 ∷ 47 ∷ 50 ∷ 48 ∷ 48 ∷ 53 ∷ 47 ∷ 48 ∷ 55 ∷ 47 ∷ 115 ∷ 99 ∷ 120 ∷ 109 ∷ 108 ∷ []

-- 1.0
abbrev pub version_text : List ℕ
version_text = 49 ∷ 46 ∷ 48 ∷ []

-- "external", "internal", "shallow", "deep"
abbrev pub external : List ℕ
external = 101 ∷ 120 ∷ 116 ∷ 101 ∷ 114 ∷ 110 ∷ 97 ∷ 108 ∷ []

abbrev pub internal : List ℕ
internal = 105 ∷ 110 ∷ 116 ∷ 101 ∷ 114 ∷ 110 ∷ 97 ∷ 108 ∷ []

abbrev pub shallow : List ℕ
shallow = 115 ∷ 104 ∷ 97 ∷ 108 ∷ 108 ∷ 111 ∷ 119 ∷ []

abbrev pub deep : List ℕ
deep = 100 ∷ 101 ∷ 101 ∷ 112 ∷ []

-- of a history, or of a transition
abbrev pub types_of : ℕ → List (List ℕ)
types_of e = cond (eqb e 4) (shallow ∷ deep ∷ []) (external ∷ internal ∷ [])

-- xmlns and version have one value, a type two, "A log's label is a decimal host action from 0 to 65,535" (1.5), a delay has at most 4,294,967,295
-- ticks (R-9), a cond is In and a reference, initial and target are references, all others names or descriptors
unfoldable pub part_faults : List (List ℕ) → Part → List ℕ
part_faults ids p =
    let w = p.word in
    cond (eqb w xmlns_word) (fault_if (not (same (plain p.bytes) namespace)) p.from)
    (cond (eqb w version_word) (fault_if (not (same (plain p.bytes) version_text)) p.from)
    (cond (eqb w type_word) (fault_if (not (is_among (plain p.bytes) (types_of p.element))) p.from)
    (cond (eqb w label_word) (fault_if (not (is_decimal 65535 (plain p.bytes))) p.from)
    (cond (eqb w delay_word) (fault_if (not (is_decimal 4294967295 (plain p.bytes))) p.from)
    (cond (eqb w cond_word) (condition_fault ids p.from p.bytes)
    (cond (eqb w initial_word || eqb w target_word) (flat (reference_fault ids) (items_at p.from p.bytes))
    (flat long_fault (items_at p.from p.bytes))))))))

-- "Every row but scxml must state an id, else 12 at its "<"." (1.9)
unfoldable pub tag_faults : List (List ℕ) → Markup → List ℕ
tag_faults ids t =
    fault_if (not (is_closing t.shape) && is_row_tag t.element && not (states id_word t.parts)) t.at ++ flat (part_faults ids) t.parts

-- all of them, by references to all rows of the text
unfoldable pub faults : List Markup → List ℕ
faults ts = flat (tag_faults (ids_of ts)) ts

abbrev pub smaller : ℕ → Option ℕ → ℕ
smaller a none = a
smaller a (some b) = cond (leb a b) a b

unfoldable pub least : List ℕ → Option ℕ
least [] = none
least (x ∷ xs) = some (smaller x (least xs))

-- "12 with the byte offset of the first fault" (1.7)
unfoldable pub first_fault : List Markup → Option ℕ
first_fault ts = least (faults ts)
