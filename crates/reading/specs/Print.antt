-- "From an accepted chart write SCXML text in one fixed spelling: document order, attributes in one stated order, no optional spaces, defaults left out."
-- (R-4, 4.2) The order of attributes: xmlns, version, id, initial, type, event, cond, target, label, delay, sendid.
use Rattle.std.specs.Prelude.{Bool, true, false, not, ◌&&◌, ◌||◌, cond, List, [], ◌∷◌, ◌++◌, map, ℕ, zero, suc, ◌+◌, ◌/◌, ◌%◌, eqb, leb}
use Rattle.std.proofs.Math.Option.{Option, none, some}
use Rattle.definition.specs.Rows.{flat, is_empty}
use Rattle.definition.specs.Tables.{no_number}
use Rattle.reading.specs.Faults.{internal, deep}
use Rattle.reading.specs.Content.{Act, raises, hosts, if_in, elseif_in, otherwise, end_if, sends, cancels, Row, Transition, Content, of_source}

-- a number in decimal, of at most ten digits
unfoldable pub digits : ℕ → ℕ → List ℕ
digits zero n = []
digits (suc k) n = cond (leb n 9) ((48 + n) ∷ []) (digits k (n / 10) ++ (48 + n % 10) ∷ [])

abbrev pub number : ℕ → List ℕ
number n = digits 10 n

-- the id of a row
unfoldable pub id_of : List Row → ℕ → List ℕ
id_of [] i = []
id_of (r ∷ rs) zero = r.id
id_of (r ∷ rs) (suc i) = id_of rs i

-- names with one space between
unfoldable pub spaced : List (List ℕ) → List ℕ
spaced [] = []
spaced (n ∷ []) = n
spaced (n ∷ m ∷ ns) = n ++ 32 ∷ spaced (m ∷ ns)

abbrev pub quoted : List ℕ → List ℕ
quoted v = 34 ∷ (v ++ 34 ∷ [])

-- an attribute, if there is a value
abbrev pub given : List ℕ → List ℕ → List ℕ
given name v = cond (is_empty v) [] (name ++ quoted v)

abbrev pub condition : List Row → ℕ → List ℕ
condition rs i = (32 ∷ 99 ∷ 111 ∷ 110 ∷ 100 ∷ 61 ∷ []) ++ quoted ((73 ∷ 110 ∷ 40 ∷ 39 ∷ []) ++ id_of rs i ++ (39 ∷ 41 ∷ []))

unfoldable pub act_text : List Row → Act → List ℕ
act_text rs (raises n) = (60 ∷ 114 ∷ 97 ∷ 105 ∷ 115 ∷ 101 ∷ 32 ∷ 101 ∷ 118 ∷ 101 ∷ 110 ∷ 116 ∷ 61 ∷ []) ++ quoted n ++ (47 ∷ 62 ∷ [])
act_text rs (hosts k) = (60 ∷ 108 ∷ 111 ∷ 103 ∷ 32 ∷ 108 ∷ 97 ∷ 98 ∷ 101 ∷ 108 ∷ 61 ∷ []) ++ quoted (number k) ++ (47 ∷ 62 ∷ [])
act_text rs (if_in i) = (60 ∷ 105 ∷ 102 ∷ []) ++ condition rs i ++ (62 ∷ [])
act_text rs (elseif_in i) = (60 ∷ 101 ∷ 108 ∷ 115 ∷ 101 ∷ 105 ∷ 102 ∷ []) ++ condition rs i ++ (47 ∷ 62 ∷ [])
act_text rs otherwise = (60 ∷ 101 ∷ 108 ∷ 115 ∷ 101 ∷ 47 ∷ 62 ∷ [])
act_text rs end_if = (60 ∷ 47 ∷ 105 ∷ 102 ∷ 62 ∷ [])
act_text rs (sends n d none) = (60 ∷ 115 ∷ 101 ∷ 110 ∷ 100 ∷ 32 ∷ 101 ∷ 118 ∷ 101 ∷ 110 ∷ 116 ∷ 61 ∷ []) ++ quoted n ++ cond (eqb d 0) [] ((32 ∷ 100 ∷ 101 ∷ 108 ∷ 97 ∷ 121 ∷ 61 ∷ []) ++ quoted (number d)) ++ (47 ∷ 62 ∷ [])
act_text rs (sends n d (some i)) = (60 ∷ 115 ∷ 101 ∷ 110 ∷ 100 ∷ []) ++ (32 ∷ 105 ∷ 100 ∷ 61 ∷ []) ++ quoted i ++ (32 ∷ 101 ∷ 118 ∷ 101 ∷ 110 ∷ 116 ∷ 61 ∷ []) ++ quoted n ++ cond (eqb d 0) [] ((32 ∷ 100 ∷ 101 ∷ 108 ∷ 97 ∷ 121 ∷ 61 ∷ []) ++ quoted (number d)) ++ (47 ∷ 62 ∷ [])
act_text rs (cancels n) = (60 ∷ 99 ∷ 97 ∷ 110 ∷ 99 ∷ 101 ∷ 108 ∷ 32 ∷ 115 ∷ 101 ∷ 110 ∷ 100 ∷ 105 ∷ 100 ∷ 61 ∷ []) ++ quoted n ++ (47 ∷ 62 ∷ [])

abbrev pub is_end : List Act → Bool
is_end [] = false
is_end (raises n ∷ more) = false
is_end (hosts k ∷ more) = false
is_end (if_in i ∷ more) = false
is_end (elseif_in i ∷ more) = false
is_end (otherwise ∷ more) = false
is_end (end_if ∷ more) = true
is_end (sends n d i ∷ more) = false
is_end (cancels n ∷ more) = false

abbrev pub is_if : Act → Bool
is_if (raises n) = false
is_if (hosts k) = false
is_if (if_in i) = true
is_if (elseif_in i) = false
is_if otherwise = false
is_if end_if = false
is_if (sends n d i) = false
is_if (cancels n) = false

abbrev pub row_of_if : Act → ℕ
row_of_if (raises n) = 0
row_of_if (hosts k) = 0
row_of_if (if_in i) = i
row_of_if (elseif_in i) = 0
row_of_if otherwise = 0
row_of_if end_if = 0
row_of_if (sends n d i) = 0
row_of_if (cancels n) = 0

-- a block's text; an if with nothing inside is <if cond=".."/>. skip: the first is the end of an if with nothing inside, which is written already
unfoldable pub block_from : List Row → Bool → List Act → List ℕ
block_from rs skip [] = []
block_from rs true (a ∷ more) = block_from rs false more
block_from rs false (a ∷ more) =
    cond (is_if a && is_end more) ((60 ∷ 105 ∷ 102 ∷ []) ++ condition rs (row_of_if a) ++ (47 ∷ 62 ∷ []) ++ block_from rs true more) (act_text rs a ++ block_from rs false more)

abbrev pub block_text : List Row → List Act → List ℕ
block_text rs acts = block_from rs false acts

-- an element with its attributes written, by what is inside
abbrev pub element : List ℕ → List ℕ → List ℕ → List ℕ
element name attributes inside =
    (60 ∷ []) ++ name ++ attributes ++ cond (is_empty inside) (47 ∷ 62 ∷ []) ((62 ∷ []) ++ inside ++ (60 ∷ 47 ∷ []) ++ name ++ (62 ∷ []))

abbrev pub ids_text : List Row → List ℕ → List ℕ
ids_text rs is = spaced (map (id_of rs) is)

abbrev pub condition_text : List Row → Option ℕ → List ℕ
condition_text rs none = []
condition_text rs (some i) = condition rs i

unfoldable pub transition_text : List Row → Transition → List ℕ
transition_text rs t =
    element (116 ∷ 114 ∷ 97 ∷ 110 ∷ 115 ∷ 105 ∷ 116 ∷ 105 ∷ 111 ∷ 110 ∷ [])
    (cond t.internal ((32 ∷ 116 ∷ 121 ∷ 112 ∷ 101 ∷ 61 ∷ []) ++ quoted internal) [] ++ given (32 ∷ 101 ∷ 118 ∷ 101 ∷ 110 ∷ 116 ∷ 61 ∷ []) (spaced t.descriptors) ++ condition_text rs t.condition ++ given (32 ∷ 116 ∷ 97 ∷ 114 ∷ 103 ∷ 101 ∷ 116 ∷ 61 ∷ []) (ids_text rs t.targets))
    (block_text rs t.block)

-- onentry, onexit: if there is something in them
abbrev pub block_element : List Row → List ℕ → List Act → List ℕ
block_element rs name acts = cond (is_empty acts) [] (element name [] (block_text rs acts))

abbrev pub is_history_kind : ℕ → Bool
is_history_kind k = leb 4 k

-- a history's default and an initial element are transitions with targets alone
abbrev pub default_text : List Row → Row → List ℕ
default_text rs r = element (116 ∷ 114 ∷ 97 ∷ 110 ∷ 115 ∷ 105 ∷ 116 ∷ 105 ∷ 111 ∷ 110 ∷ []) ((32 ∷ 116 ∷ 97 ∷ 114 ∷ 103 ∷ 101 ∷ 116 ∷ 61 ∷ []) ++ quoted (ids_text rs r.list)) (block_text rs r.block)

abbrev pub is_element_list : Row → Bool
is_element_list r = not (is_empty r.list) && not (is_empty r.block)

abbrev pub list_text : List Row → Row → List ℕ
list_text rs r =
    cond (is_history_kind r.kind) (cond (is_empty r.list) [] (default_text rs r))
    (cond (is_element_list r) ((60 ∷ 105 ∷ 110 ∷ 105 ∷ 116 ∷ 105 ∷ 97 ∷ 108 ∷ 62 ∷ []) ++ default_text rs r ++ (60 ∷ 47 ∷ 105 ∷ 110 ∷ 105 ∷ 116 ∷ 105 ∷ 97 ∷ 108 ∷ 62 ∷ [])) [])

-- what stands in a row before its child rows
unfoldable pub inner_text : Content → ℕ → Row → List ℕ
inner_text c i r =
    block_element c.rows (111 ∷ 110 ∷ 101 ∷ 110 ∷ 116 ∷ 114 ∷ 121 ∷ []) r.entry ++ block_element c.rows (111 ∷ 110 ∷ 101 ∷ 120 ∷ 105 ∷ 116 ∷ []) r.exit ++ list_text c.rows r ++
    flat (transition_text c.rows) (of_source c.transitions i)

abbrev pub kind_name : ℕ → List ℕ
kind_name zero = (115 ∷ 99 ∷ 120 ∷ 109 ∷ 108 ∷ [])
kind_name (suc zero) = (115 ∷ 116 ∷ 97 ∷ 116 ∷ 101 ∷ [])
kind_name (suc (suc zero)) = (112 ∷ 97 ∷ 114 ∷ 97 ∷ 108 ∷ 108 ∷ 101 ∷ 108 ∷ [])
kind_name (suc (suc (suc zero))) = (102 ∷ 105 ∷ 110 ∷ 97 ∷ 108 ∷ [])
kind_name (suc (suc (suc (suc n)))) = (104 ∷ 105 ∷ 115 ∷ 116 ∷ 111 ∷ 114 ∷ 121 ∷ [])

-- "An initial list that is stated is written even where it names the first child." (4.6)
abbrev pub initial_text : List Row → Row → List ℕ
initial_text rs r = cond (is_history_kind r.kind || is_element_list r) [] (given (32 ∷ 105 ∷ 110 ∷ 105 ∷ 116 ∷ 105 ∷ 97 ∷ 108 ∷ 61 ∷ []) (ids_text rs r.list))

abbrev pub attributes_of : List Row → Row → List ℕ
attributes_of rs r =
    cond (eqb r.kind 0) (32 ∷ 120 ∷ 109 ∷ 108 ∷ 110 ∷ 115 ∷ 61 ∷ 34 ∷ 104 ∷ 116 ∷ 116 ∷ 112 ∷ 58 ∷ 47 ∷ 47 ∷ 119 ∷ 119 ∷ 119 ∷ 46 ∷ 119 ∷ 51 ∷ 46 ∷ 111 ∷ 114 ∷ 103 ∷ 47 ∷ 50 ∷ 48 ∷ 48 ∷ 53 ∷ 47 ∷ 48 ∷ 55 ∷ 47 ∷ 115 ∷ 99 ∷ 120 ∷ 109 ∷ 108 ∷ 34 ∷ 32 ∷ 118 ∷ 101 ∷ 114 ∷ 115 ∷ 105 ∷ 111 ∷ 110 ∷ 61 ∷ 34 ∷ 49 ∷ 46 ∷ 48 ∷ 34 ∷ []) [] ++
    given (32 ∷ 105 ∷ 100 ∷ 61 ∷ []) r.id ++ initial_text rs r ++ cond (eqb r.kind 5) ((32 ∷ 116 ∷ 121 ∷ 112 ∷ 101 ∷ 61 ∷ []) ++ quoted deep) []

-- an open row: its number and its end tag's name
pub record Around : Type 0 where
  pub row : ℕ
  pub name : List ℕ

-- the end tags of open rows up to the row p
unfoldable pub close_text : ℕ → List Around → List ℕ
close_text p [] = []
close_text p (a ∷ more) = cond (eqb a.row p) [] ((60 ∷ 47 ∷ []) ++ a.name ++ 62 ∷ close_text p more)

unfoldable pub close_to : ℕ → List Around → List Around
close_to p [] = []
close_to p (a ∷ more) = cond (eqb a.row p) (a ∷ more) (close_to p more)

-- is the next row inside row i
abbrev pub has_child : ℕ → List Row → Bool
has_child i [] = false
has_child i (r ∷ rs) = eqb r.parent i

-- the rows from number i on, with the open ones around them
unfoldable pub rows_text : Content → ℕ → List Around → List Row → List ℕ
rows_text c i around [] = close_text no_number around
rows_text c i around (r ∷ rs) =
    let inside = inner_text c i r in
    close_text r.parent around ++ 60 ∷ (kind_name r.kind ++ attributes_of c.rows r ++
    cond (is_empty inside && not (has_child i rs)) (47 ∷ 62 ∷ rows_text c (suc i) (close_to r.parent around) rs)
    (62 ∷ (inside ++ rows_text c (suc i) (record { row = i; name = kind_name r.kind } ∷ close_to r.parent around) rs)))

-- the text of a chart by its content
unfoldable pub print : Content → List ℕ
print c = rows_text c 0 [] c.rows
