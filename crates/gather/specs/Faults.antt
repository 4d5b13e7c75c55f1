-- The faults of a text, found mark by mark.
use Rattle.std.proofs.Math.Path.{◌≡◌, refl, sym, ap}
use Rattle.std.proofs.Common.{subst, ◌∙◌, arith, length-take, length-drop}
use Rattle.std.specs.Prelude.{Bool, ◌&&◌, ◌||◌, cond, ℕ, ◌+◌, ◌-◌, ◌^◌, ◌≤◌, ◌<◌, min, leb, length, take, drop}
use Rattle.std.proofs.Math.Bool.{true, false, not}
use mathlib.Core.List.{List, [], ◌∷◌, ◌++◌, append_assoc, append-nil}
use Rattle.std.proofs.Math.Option.{Option, none, some}
use Rattle.std.proofs.Math.Dec.{eqb}
use borrow.Author.Tests.{ne_eqb, leb-true, leb-false}
use Rattle.definition.specs.Rows.{flat, same}
use Rattle.marks.specs.declared.Mark.{Mark}
use Rattle.marks.specs.declared.Mark.TheVariants as marks
use Rattle.marks.specs.declared.Walk.{Walk}
use Rattle.marks.specs.Marks.{marked, is_mark, value_from, value_to}
use Rattle.marks.specs.Walks.{rest_of, Standing, Next, beginning, begin_stands, begin_rest}
use Rattle.marks.specs.Grouped.{shape_of, grouped}
use Rattle.marks.specs.Joined.{joined}
use Rattle.reading.specs.Tags.{Part, Markup, tags_of}
use Rattle.reading.specs.Faults.{id_word, is_closing, is_row_tag, states, fault_if, plain, namespace, version_text, types_of, is_among, is_decimal, is_condition, condition_at, inner, name_bytes, condition_fault, part_faults, tag_faults, faults, smaller, least, first_fault, items_at, reference_fault, long_fault}
use Rattle.std.specs.declared.option.Option.{Option as program}
use Rattle.std.specs.declared.option.Option.TheVariants.{Some, None}
use Rattle.values.specs.declared.conditions.Span.{Span}
use Rattle.values.specs.Conditions.{span, condition_of, condition_inside}
use Rattle.values.specs.Items.{found_of, is_bad, item_faults}
use Rattle.values.specs.Ids.{Noted, ids_from}
use Rattle.gather.specs.Parts.{part_at, states_snoc}
use Rattle.gather.specs.Ids.{Gathered}

-- ---- the smaller offset of two

abbrev pub sooner : program ℕ → program ℕ → program ℕ
sooner None b = b
sooner (Some x) None = Some x
sooner (Some x) (Some y) = Some (min x y)

pub sooner_none : (a : program ℕ) → sooner a None ≡ a
sooner_none None = refl
sooner_none (Some x) = refl

pub sooner_assoc : (a b c : program ℕ) → sooner (sooner a b) c ≡ sooner a (sooner b c)
sooner_assoc None b c = refl
sooner_assoc (Some x) None c = refl
sooner_assoc (Some x) (Some y) None = refl
sooner_assoc (Some x) (Some y) (Some z) = ap (λ (n : ℕ). Some n) (omega arith)

smaller_min : (x y : ℕ) → cond (leb x y) x y ≡ min x y
smaller_min x y = by (leb x y) refl
  where
    by : (z : Bool) → leb x y ≡ z → cond z x y ≡ min x y
    by true e = let h = leb-true x y e in omega arith
    by false e = let h = leb-false x y e in omega arith

least_sooner : (x : ℕ) (ys : List ℕ) → found_of (least (x ∷ ys)) ≡ sooner (Some x) (found_of (least ys))
unfolding least
least_sooner x ys = by (least ys)
  where
    by : (o : Option ℕ) → found_of (some (smaller x o)) ≡ sooner (Some x) (found_of o)
    by none = refl
    by (some y) = ap (λ (n : ℕ). Some n) (smaller_min x y)

pub least_append : (xs ys : List ℕ) → found_of (least (xs ++ ys)) ≡ sooner (found_of (least xs)) (found_of (least ys))
unfolding least
least_append [] ys = refl
least_append (x ∷ xs) ys =
    least_sooner x (xs ++ ys) ∙ ap (λ (f : program ℕ). sooner (Some x) f) (least_append xs ys) ∙ sym (sooner_assoc (Some x) (found_of (least xs)) (found_of (least ys))) ∙
    ap (λ (f : program ℕ). sooner f (found_of (least ys))) (sym (least_sooner x xs))

flat_snoc : {A : Type 0} → (f : A → List ℕ) (xs : List A) (x : A) → flat f (xs ++ x ∷ []) ≡ flat f xs ++ f x
unfolding flat
flat_snoc f [] x = append-nil (f x)
flat_snoc f (y ∷ ys) x = ap (λ (l : List ℕ). f y ++ l) (flat_snoc f ys x) ∙ sym (append_assoc (f y) (flat f ys) (f x))

-- ---- the functions of one mark

abbrev pub missing : ℕ → ℕ → ℕ → Bool → program ℕ
missing at s e stated = found_of (least (fault_if (not (is_closing (shape_of s)) && is_row_tag e && not stated) at))

abbrev pub tag_fault : Mark → Bool → program ℕ → program ℕ
tag_fault marks.Nothing stated pending = None
tag_fault (marks.Valued e w a b) stated pending = None
tag_fault (marks.Tagged a s e) stated pending = sooner (missing a s e stated) pending

abbrev pub pending_after : List ℕ → List (List ℕ) → program ℕ → Mark → program ℕ
pending_after text ids pending marks.Nothing = pending
pending_after text ids pending (marks.Valued e w a b) = sooner pending (found_of (least (part_faults ids (part_at text e w a b))))
pending_after text ids pending (marks.Tagged a s e) = None

abbrev pub stated_after : Bool → Mark → Bool
stated_after stated marks.Nothing = stated
stated_after stated (marks.Valued e w a b) = stated || eqb w id_word
stated_after stated (marks.Tagged a s e) = false

-- a value of a text whose ids are noted
pub record Inside (text ids : List ℕ) (n from to : ℕ) : Type 0 where
  pub noted : Noted text ids n
  pub first : from ≤ to
  pub quote : to ≤ length text

-- ---- their arms

pub unless_ok : (ok : Bool) (at : ℕ) → ok ≡ true → None ≡ found_of (least (fault_if (not ok) at))
unfolding least
unless_ok ok at e = rw e refl

pub unless_not : (ok : Bool) (at : ℕ) → ok ≡ false → Some at ≡ found_of (least (fault_if (not ok) at))
unfolding least
unless_not ok at e = rw e refl

pub missing_so : (at s e : ℕ) (row stated : Bool) (r : program ℕ) → row ≡ (not (is_closing (shape_of s)) && is_row_tag e) → r ≡ found_of (least (fault_if (not (not row || stated)) at)) → r ≡ missing at s e stated
missing_so at s e row stated r q f = f ∙ ap (λ (z : Bool). found_of (least (fault_if z at))) (by row stated ∙ ap (λ (z : Bool). z && not stated) q)
  where
    by : (a b : Bool) → not (not a || b) ≡ (a && not b)
    by true b = refl
    by false b = refl

module _ (m : Mark) where
  pub tag_value : (stated : Bool) (pending : program ℕ) (e w a b : ℕ) → m ≡ marks.Valued e w a b → None ≡ tag_fault m stated pending
  tag_value stated pending e w a b x = sym (ap (λ (k : Mark). tag_fault k stated pending) x)

  pub tag_tag : (stated : Bool) (pending f r : program ℕ) (a s e : ℕ) → m ≡ marks.Tagged a s e → f ≡ missing a s e stated → r ≡ sooner f pending → r ≡ tag_fault m stated pending
  tag_tag stated pending f r a s e x q h = h ∙ ap (λ (z : program ℕ). sooner z pending) q ∙ sym (ap (λ (k : Mark). tag_fault k stated pending) x)

  pub pending_value : (text : List ℕ) (ids : List (List ℕ)) (pending f r : program ℕ) (e w a b : ℕ) → m ≡ marks.Valued e w a b → f ≡ found_of (least (part_faults ids (part_at text e w a b))) → r ≡ sooner pending f →
      r ≡ pending_after text ids pending m
  pending_value text ids pending f r e w a b x q h = h ∙ ap (sooner pending) q ∙ sym (ap (pending_after text ids pending) x)

  pub pending_tag : (text : List ℕ) (ids : List (List ℕ)) (pending : program ℕ) (a s e : ℕ) → m ≡ marks.Tagged a s e → None ≡ pending_after text ids pending m
  pending_tag text ids pending a s e x = sym (ap (pending_after text ids pending) x)

  pub stated_value : (stated : Bool) (e w a b : ℕ) → m ≡ marks.Valued e w a b → (stated || eqb w 26) ≡ stated_after stated m
  stated_value stated e w a b x = sym (ap (stated_after stated) x)

  pub value_inside : (text ids : List ℕ) (n e w a b : ℕ) → Inside text ids n (value_from m) (value_to m) → m ≡ marks.Valued e w a b → Inside text ids n a b
  value_inside text ids n e w a b h x = subst (λ (k : Mark). Inside text ids n (value_from k) (value_to k)) x h

-- ---- the value of cond

module _ (v : List ℕ) (c : program Span) (is : c ≡ condition_of v) where
  no_condition : (z : Bool) → c ≡ None → is_condition v ≡ z → z ≡ false
  no_condition true o e = absurd (let x : None ≡ Some (span (condition_at v) (condition_at v + name_bytes (drop (condition_at v) v))) = sym o ∙ is ∙ rw e refl in let z2 : ◌≡◌ {A = ℕ} 0 1 = cc in omega arith)
  no_condition false o e = refl

  pub condition_none : (ids : List (List ℕ)) (from : ℕ) → c ≡ None → Some from ≡ found_of (least (condition_fault ids from v))
  unfolding least
  condition_none ids from o = rw (no_condition (is_condition v) o refl) refl

  module _ (s : Span) (here : c ≡ Some s) where
    is_condition_lem : (z : Bool) → is_condition v ≡ z → z ≡ true
    is_condition_lem true e = refl
    is_condition_lem false e = absurd (let x : None ≡ Some s = sym (is ∙ rw e refl) ∙ here in let z2 : ◌≡◌ {A = ℕ} 0 1 = cc in omega arith)

    so : s ≡ span (condition_at v) (condition_at v + name_bytes (drop (condition_at v) v))
    so = let x : Some s ≡ Some (span (condition_at v) (condition_at v + name_bytes (drop (condition_at v) v))) = sym here ∙ is ∙ rw (is_condition_lem (is_condition v) refl) refl in cc

    a_is : s.from ≡ condition_at v
    a_is = ap (λ (x : Span). x.from) so

    b_is : s.to ≡ condition_at v + name_bytes (drop (condition_at v) v)
    b_is = ap (λ (x : Span). x.to) so

    pub name_first : s.from ≤ s.to
    name_first = let p = a_is in let q = b_is in omega arith

    pub name_quote : s.to ≤ length v
    name_quote = rw b_is (condition_inside v (is_condition_lem (is_condition v) refl))

    pub name_fits : (from : ℕ) → from + length v ≤ 32768 → from + s.from < 2 ^ 64
    name_fits from h = let p = name_first in let q = name_quote in omega arith

    pub condition_named : (ids : List (List ℕ)) (from : ℕ) (bad : Bool) (r : program ℕ) → bad ≡ is_bad true ids (take (s.to - s.from) (drop s.from v)) → r ≡ found_of (least (fault_if (not (not bad)) (from + s.from))) →
        r ≡ found_of (least (condition_fault ids from v))
    condition_named ids from bad r e f =
        let long : s.to - s.from ≡ name_bytes (drop (condition_at v) v) = let p = a_is in let q = b_is in omega arith in
        let name : take (s.to - s.from) (drop s.from v) ≡ inner v = ap (λ (n : ℕ). take n (drop s.from v)) long ∙ ap (λ (n : ℕ). take (name_bytes (drop (condition_at v) v)) (drop n v)) a_is in
        f ∙ ap (λ (z : Bool). found_of (least (fault_if z (from + s.from)))) (twice bad ∙ e ∙ ap (is_bad true ids) name) ∙
        ap (λ (n : ℕ). found_of (least (fault_if (is_bad true ids (inner v)) (from + n)))) a_is ∙
        sym (ap (λ (z : Bool). found_of (least (cond z (reference_fault ids (record { from = from + condition_at v; bytes = inner v })) (from ∷ [])))) (is_condition_lem (is_condition v) refl))
      where
        twice : (z : Bool) → not (not z) ≡ z
        twice true = refl
        twice false = refl

-- ---- the values by their attributes' words

module _ (text : List ℕ) (ids : List (List ℕ)) (e w a b : ℕ) where
  abbrev F : ℕ → program ℕ
  F v = found_of (least (part_faults ids (part_at text e v a b)))

  word_is : (k : ℕ) (r : program ℕ) → w ≡ k → r ≡ F k → r ≡ F w
  word_is k r q h = h ∙ ap F (sym q)

  abbrev val : List ℕ
  val = take (b - a) (drop a text)

  pub part_xmlns : (ok : Bool) (r : program ℕ) → w ≡ 24 → ok ≡ same (plain val) namespace → r ≡ found_of (least (fault_if (not ok) a)) → r ≡ F w
  unfolding part_faults
  part_xmlns ok r q o h = word_is 24 r q (h ∙ ap (λ (z : Bool). found_of (least (fault_if (not z) a))) o)

  pub part_version : (ok : Bool) (r : program ℕ) → w ≡ 25 → ok ≡ same (plain val) version_text → r ≡ found_of (least (fault_if (not ok) a)) → r ≡ F w
  unfolding part_faults
  part_version ok r q o h = word_is 25 r q (h ∙ ap (λ (z : Bool). found_of (least (fault_if (not z) a))) o)

  pub part_type : (ok : Bool) (r : program ℕ) → w ≡ 28 → ok ≡ is_among (plain val) (types_of e) → r ≡ found_of (least (fault_if (not ok) a)) → r ≡ F w
  unfolding part_faults
  part_type ok r q o h = word_is 28 r q (h ∙ ap (λ (z : Bool). found_of (least (fault_if (not z) a))) o)

  pub part_label : (ok : Bool) (r : program ℕ) → w ≡ 32 → ok ≡ is_decimal 65535 (plain val) → r ≡ found_of (least (fault_if (not ok) a)) → r ≡ F w
  unfolding part_faults
  part_label ok r q o h = word_is 32 r q (h ∙ ap (λ (z : Bool). found_of (least (fault_if (not z) a))) o)

  pub part_delay : (ok : Bool) (r : program ℕ) → w ≡ 33 → ok ≡ is_decimal 4294967295 (plain val) → r ≡ found_of (least (fault_if (not ok) a)) → r ≡ F w
  unfolding part_faults
  part_delay ok r q o h = word_is 33 r q (h ∙ ap (λ (z : Bool). found_of (least (fault_if (not z) a))) o)

  pub part_cond : (r : program ℕ) → w ≡ 30 → r ≡ found_of (least (condition_fault ids a val)) → r ≡ F w
  unfolding part_faults
  part_cond r q h = word_is 30 r q h

  pub part_names : (refers : Bool) (r : program ℕ) → (w ≡ 24 → ⊥) → (w ≡ 25 → ⊥) → (w ≡ 28 → ⊥) → (w ≡ 32 → ⊥) → (w ≡ 33 → ⊥) → (w ≡ 30 → ⊥) → refers ≡ (eqb w 27 || eqb w 31) →
      r ≡ found_of (item_faults refers ids a val) → r ≡ F w
  unfolding part_faults
  part_names refers r n1 n2 n3 n4 n5 n6 q h =
      rw (ne_eqb w 24 n1, ne_eqb w 25 n2, ne_eqb w 28 n3, ne_eqb w 32 n4, ne_eqb w 33 n5, ne_eqb w 30 n6, ← q) (h ∙ by refers)
    where
      by : (z : Bool) → found_of (item_faults z ids a val) ≡ found_of (least (cond z (flat (reference_fault ids) (items_at a val)) (flat long_fault (items_at a val))))
      by true = refl
      by false = refl

  pub part_room : (text_ids : List ℕ) (n : ℕ) → Inside text text_ids n a b → a + length val ≤ 32768
  part_room text_ids n h =
      let l = length-take (b - a) (drop a text) in
      let d : length (drop a text) ≡ length text - a = length-drop a text in
      let s = h.noted.short in let f = h.first in let q = h.quote in
      simp (length-take, length-drop) (omega arith)

none_stated : false ≡ states id_word []
unfolding states
none_stated = refl

module _ (ids : List (List ℕ)) where
  none_pending : None ≡ found_of (least (flat (part_faults ids) []))
  unfolding flat least
  none_pending = refl

-- ---- the walk

pub record Searched (text levels ids : List ℕ) (n : ℕ) (r : program ℕ) : Type 0 where
  pub gathered : Gathered text levels ids n
  pub is : r ≡ found_of (first_fault (tags_of text))

pub record Searching (text levels ids : List ℕ) (n : ℕ) (w : Walk) (stated : Bool) (pending first : program ℕ) : Type 0 where
  pub standing : Standing text levels w
  pub parts : List Part
  pub stated_is : stated ≡ states id_word parts
  pub pending_is : pending ≡ found_of (least (flat (part_faults (ids_from text ids n 0)) parts))
  pub left :
      found_of (least (flat (tag_faults (ids_from text ids n 0)) (tags_of text))) ≡
      sooner first (found_of (least (flat (tag_faults (ids_from text ids n 0)) (grouped text parts (rest_of text levels w)))))

pub fault_start : (text levels ids : List ℕ) (n : ℕ) (w : Walk) → Gathered text levels ids n → w ≡ beginning → Searching text levels ids n w false None None
unfolding states flat least
fault_start text levels ids n w g e =
    rw e
    (record {
      standing = begin_stands text levels g.begun.short g.begun.deep;
      parts = [];
      stated_is = refl;
      pending_is = refl;
      left = ap (λ (l : List Markup). found_of (least (flat (tag_faults (ids_from text ids n 0)) l))) (sym (joined text) ∙ ap (grouped text []) (sym (begin_rest text levels)));
    })

module _ (text levels₀ levels ids : List ℕ) (n : ℕ) (w : Walk) (stated : Bool) (pending first : program ℕ) (g : Gathered text levels₀ ids n) (k : Searching text levels ids n w stated pending first)
    (levels' : List ℕ) (r : Walk) (next : Next text levels levels' w r) where
  abbrev I : List (List ℕ)
  I = ids_from text ids n 0

  pub fault_end : (found : Bool) → found ≡ is_mark r.mark → found ≡ false → Searched text levels' ids n first
  unfolding grouped flat least first_fault faults
  fault_end found e q =
      let none = next.none (sym e ∙ q) in
      record {
        gathered = record { begun = record { short = g.begun.short; deep = next.standing.room; room = g.begun.room }; noted = g.noted; ids_are = g.ids_are };
        is =
            sym
            (ap (λ (l : List (List ℕ)). found_of (least (flat (tag_faults l) (tags_of text)))) (sym g.ids_are) ∙ k.left ∙
            ap (λ (l : List Mark). sooner first (found_of (least (flat (tag_faults I) (grouped text k.parts l))))) none ∙ sooner_none first);
      }

  pub fault_inside : Inside text ids n (value_from r.mark) (value_to r.mark)
  fault_inside = record { noted = g.noted; first = next.first; quote = next.quote }

  pub fault_less : (found : Bool) → found ≡ is_mark r.mark → found ≡ true → length text - r.index < length text - w.index
  fault_less found e q = let more = next.further (sym e ∙ q) in let i = next.standing.within in omega arith

  left_with : (m : Mark) → r.mark ≡ m → found_of (least (flat (tag_faults I) (tags_of text))) ≡ sooner first (found_of (least (flat (tag_faults I) (grouped text k.parts (marked m (rest_of text levels' r))))))
  left_with m e = k.left ∙ ap (λ (l : List Mark). sooner first (found_of (least (flat (tag_faults I) (grouped text k.parts l))))) (next.rest ∙ ap (λ (x : Mark). marked x (rest_of text levels' r)) e)

  tag_so : (a s d : ℕ) → found_of (least (flat (tag_faults I) (grouped text k.parts (marks.Tagged a s d ∷ rest_of text levels' r)))) ≡
      sooner (sooner (missing a s d stated) pending) (found_of (least (flat (tag_faults I) (grouped text [] (rest_of text levels' r)))))
  unfolding grouped flat tag_faults
  tag_so a s d =
      let rest = flat (tag_faults I) (grouped text [] (rest_of text levels' r)) in
      let miss = fault_if (not (is_closing (shape_of s)) && is_row_tag d && not (states id_word k.parts)) a in
      least_append (miss ++ flat (part_faults I) k.parts) rest ∙
      ap (λ (f : program ℕ). sooner f (found_of (least rest)))
      (least_append miss (flat (part_faults I) k.parts) ∙ ap (λ (z : Bool). sooner (missing a s d z) (found_of (least (flat (part_faults I) k.parts)))) (sym k.stated_is) ∙
      ap (λ (f : program ℕ). sooner (missing a s d stated) f) (sym k.pending_is))

  pub fault_more : (found : Bool) (here first' pending' : program ℕ) (stated' : Bool) → found ≡ is_mark r.mark → found ≡ true → here ≡ tag_fault r.mark stated pending →
      first' ≡ sooner first here → pending' ≡ pending_after text I pending r.mark → stated' ≡ stated_after stated r.mark → Searching text levels' ids n r stated' pending' first'
  unfolding grouped
  fault_more found here first' pending' stated' e q h f p s = by r.mark refl
    where
      by : (m : Mark) → r.mark ≡ m → Searching text levels' ids n r stated' pending' first'
      by marks.Nothing x = absurd (let t : is_mark r.mark ≡ true = sym e ∙ q in let z : true ≡ false = sym t ∙ ap is_mark x in let z2 : ◌≡◌ {A = ℕ} 0 1 = cc in omega arith)
      by (marks.Valued d v a b) x =
          record {
            standing = next.standing;
            parts = k.parts ++ part_at text d v a b ∷ [];
            stated_is = s ∙ ap (stated_after stated) x ∙ ap (λ (z : Bool). z || eqb v id_word) k.stated_is ∙ sym (states_snoc id_word k.parts (part_at text d v a b));
            pending_is =
                p ∙ ap (pending_after text I pending) x ∙ ap (λ (z : program ℕ). sooner z (found_of (least (part_faults I (part_at text d v a b))))) k.pending_is ∙
                sym (least_append (flat (part_faults I) k.parts) (part_faults I (part_at text d v a b))) ∙
                ap (λ (l : List ℕ). found_of (least l)) (sym (flat_snoc (part_faults I) k.parts (part_at text d v a b)));
            left =
                left_with (marks.Valued d v a b) x ∙
                ap (λ (z : program ℕ). sooner z (found_of (least (flat (tag_faults I) (grouped text (k.parts ++ part_at text d v a b ∷ []) (rest_of text levels' r))))))
                (sym (f ∙ ap (sooner first) (h ∙ ap (λ (m : Mark). tag_fault m stated pending) x) ∙ sooner_none first));
          }
      by (marks.Tagged a t d) x =
          record {
            standing = next.standing;
            parts = [];
            stated_is = s ∙ ap (stated_after stated) x ∙ none_stated;
            pending_is = p ∙ ap (pending_after text I pending) x ∙ none_pending I;
            left =
                left_with (marks.Tagged a t d) x ∙ ap (sooner first) (tag_so a t d) ∙
                sym (sooner_assoc first (sooner (missing a t d stated) pending) (found_of (least (flat (tag_faults I) (grouped text [] (rest_of text levels' r)))))) ∙
                ap (λ (z : program ℕ). sooner z (found_of (least (flat (tag_faults I) (grouped text [] (rest_of text levels' r))))))
                (sym (f ∙ ap (sooner first) (h ∙ ap (λ (m : Mark). tag_fault m stated pending) x)));
          }
