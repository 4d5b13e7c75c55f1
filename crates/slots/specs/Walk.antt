-- The walk that gathers the slots of a text.
use Rattle.std.proofs.Math.Path.{◌≡◌, refl, sym, ap, subst}
use Rattle.std.proofs.Common.{◌∙◌, arith}
use Rattle.std.specs.Prelude.{Bool, not, ◌&&◌, ℕ, zero, suc, ◌+◌, ◌*◌, ◌-◌, ◌≤◌, ◌<◌, length, get_or}
use Rattle.std.proofs.Math.Bool.{true, false, cond}
use mathlib.Core.List.{List, [], ◌∷◌, ◌++◌, append_assoc, append-nil}
use Rattle.std.proofs.Math.Dec.{ltb}
use borrow.Author.Tests.{ltb-true, ltb-false}
use Rattle.definition.specs.Rows.{flat}
use Rattle.marks.specs.declared.Mark.{Mark}
use Rattle.marks.specs.declared.Mark.TheVariants.{Nothing, Valued, Tagged}
use Rattle.marks.specs.declared.Walk.{Walk}
use Rattle.marks.specs.Marks.{marked, is_mark, value_from, value_to}
use Rattle.marks.specs.Walks.{rest_of, Standing, Next, beginning, begin_stands, begin_rest}
use Rattle.marks.specs.Grouped.{bytes_from, grouped}
use Rattle.marks.specs.Joined.{joined}
use Rattle.reading.specs.Tags.{Part, Markup, tags_of}
use Rattle.reading.specs.Faults.{names_in}
use Rattle.reading.specs.Content.{uses_in, uses_of, fresh, slots_of}
use Rattle.laws.specs.Orders.{lt_case}
use Rattle.values.specs.Ids.{id_at, ids_from, Noted, noted_of}
use Rattle.values.specs.Notes.{Forgotten, forgotten_index}
use Rattle.gather.specs.Parts.{part_at}
use Rattle.std.specs.declared.result.Result.{Result}
use Rattle.std.specs.declared.result.Result.TheVariants.{Ok, Err}
use Rattle.slots.specs.declared.TooMany.{TooMany}
use Rattle.slots.specs.First.{fresh_append, fresh_grows}
use Rattle.slots.specs.Slots.{Fits, Held, AddRoom, Grows, grows_none, is_use, ValueIn}

abbrev pub ends_tag : Mark → Bool
ends_tag Nothing = false
ends_tag (Valued e w a b) = false
ends_tag (Tagged a s e) = true

-- the names that a mark uses
abbrev used_by : List ℕ → Mark → List (List ℕ)
used_by text Nothing = []
used_by text (Valued e w a b) = cond (is_use w) (names_in (bytes_from text a b)) []
used_by text (Tagged a s e) = []

pub record AddedBy (text slots slots' : List ℕ) (n : ℕ) (m : Mark) (r : ℕ) : Type 0 where
  pub grows : Grows text slots slots' n r (used_by text m)

module _ (text slots : List ℕ) (n : ℕ) (m : Mark) where
  pub by_other : ((e w a b : ℕ) → m ≡ Valued e w a b → ⊥) → Fits text slots n → AddedBy text slots slots n m n
  by_other x f = record { grows = by m refl }
    where
      by : (k : Mark) → m ≡ k → Grows text slots slots n n (used_by text m)
      by Nothing e = subst (λ (k : Mark). Grows text slots slots n n (used_by text k)) (sym e) (grows_none text slots n f)
      by (Valued e w a b) g = absurd (x e w a b g)
      by (Tagged a s e) g = subst (λ (k : Mark). Grows text slots slots n n (used_by text k)) (sym g) (grows_none text slots n f)

  pub by_value : (slots' : List ℕ) (r e w a b : ℕ) → m ≡ Valued e w a b → ValueIn text slots slots' n w a b r → AddedBy text slots slots' n m r
  by_value slots' r e w a b x v = record { grows = subst (λ (k : Mark). Grows text slots slots' n r (used_by text k)) (sym x) v }

  pub mark_both : (e w a b : ℕ) → AddRoom text slots n (value_from m) (value_to m) → m ≡ Valued e w a b → AddRoom text slots n a b
  mark_both e w a b h x = subst (λ (k : Mark). AddRoom text slots n (value_from k) (value_to k)) x h

-- ---- the walk

pub record Begun (text levels slots : List ℕ) : Type 0 where
  pub short : length text ≤ 32768
  pub deep : length levels ≡ 32768
  pub room : length slots ≡ 4864

pub record Found (text slots : List ℕ) (n : ℕ) : Type 0 where
  pub few : n ≤ 768
  pub noted : Noted text slots n
  pub are : ids_from text slots n 0 ≡ slots_of (tags_of text)

abbrev SlotsAs : List ℕ → List ℕ → Result ℕ TooMany → Type 0
SlotsAs text slots (Err many) = 768 < length (slots_of (tags_of text))
SlotsAs text slots (Ok n) = Found text slots n

pub record Gathered (text levels slots : List ℕ) (r : Result ℕ TooMany) : Type 0 where
  pub begun : Begun text levels slots
  pub slots_are_lem : SlotsAs text slots r

-- the slots of the tags that have ended, and the names of the parts behind them
pub record Gathering (text levels slots : List ℕ) (w : Walk) (n whole : ℕ) : Type 0 where
  pub standing : Standing text levels w
  pub fits : Fits text slots n
  pub few : whole ≤ 768
  pub parts : List Part
  pub names : List (List ℕ)
  pub whole_are : ids_from text slots whole 0 ≡ names
  pub held : Held text slots n (fresh names (flat uses_in parts))
  pub past : whole ≤ n
  pub left : slots_of (tags_of text) ≡ fresh names (flat uses_of (grouped text parts (rest_of text levels w)))

pub begun_keys : (text levels slots : List ℕ) → Begun text levels slots → 1024 ≤ length slots
begun_keys text levels slots h = let r = h.room in omega arith

pub slots_start : (text levels slots₀ slots : List ℕ) (w : Walk) → Begun text levels slots₀ → Forgotten slots₀ slots → w ≡ beginning → Gathering text levels slots w 0 0
unfolding ids_from fresh flat slots_of
slots_start text levels slots₀ slots w h f e =
    rw e
    (record {
      standing = begin_stands text levels h.short h.deep;
      fits =
          record {
            room = f.size ∙ h.room;
            most = omega arith;
            short = h.short;
            noted = 0;
            index = forgotten_index text slots₀ slots h.short (begun_keys text levels slots₀ h) f;
            all_noted = λ l. refl;
            full = λ l. absurd (omega arith);
          };
      few = omega arith;
      parts = [];
      names = [];
      whole_are = refl;
      held = record { are = λ l. refl; many = λ l. absurd (omega arith) };
      past = omega arith;
      left = ap (λ (l : List Markup). fresh [] (flat uses_of l)) (sym (joined text) ∙ ap (grouped text []) (sym (begin_rest text levels)));
    })

flat_snoc : (ps : List Part) (p : Part) → flat uses_in (ps ++ p ∷ []) ≡ flat uses_in ps ++ uses_in p
unfolding flat
flat_snoc [] p = append-nil (uses_in p)
flat_snoc (q ∷ ps) p = ap (λ (l : List (List ℕ)). uses_in q ++ l) (flat_snoc ps p) ∙ sym (append_assoc (uses_in q) (flat uses_in ps) (uses_in p))

-- names whose numbers are the same are the same
kept_names : (text slots slots' : List ℕ) (n whole k : ℕ) → whole + k ≤ n → ((c : ℕ) → c < n * 2 → get_or slots' c 0 ≡ get_or slots c 0) → ids_from text slots' whole k ≡ ids_from text slots whole k
unfolding ids_from id_at
kept_names text slots slots' n zero k h e = refl
kept_names text slots slots' n (suc whole) k h e = rw (e (k * 2) (omega arith), e (k * 2 + 1) (omega arith), kept_names text slots slots' n whole (suc k) (omega arith) e) refl

-- the names of the tags that have ended are noted
whole_noted : (text slots : List ℕ) (n whole : ℕ) → Fits text slots n → whole ≤ n → whole ≤ 768 → Noted text slots whole
whole_noted text slots n whole f l m =
    noted_of text slots whole f.noted (lt_case 768 n (λ g. let e = f.full g in omega (arith, e, m)) (λ g. let e = f.all_noted g in omega (arith, e, l))) f.index

module _ (text levels slots : List ℕ) (w : Walk) (n whole : ℕ) (k : Gathering text levels slots w n whole) (levels' : List ℕ) (r : Walk) (next : Next text levels levels' w r) where
  pub slots_end : (found : Bool) → found ≡ is_mark r.mark → found ≡ false → Gathered text levels' slots (Ok whole)
  unfolding grouped flat fresh
  slots_end found e q =
      let none = next.none (sym e ∙ q) in
      record {
        begun = record { short = k.standing.short; deep = next.standing.room; room = k.fits.room };
        slots_are_lem =
            record {
              few = k.few;
              noted = whole_noted text slots n whole k.fits k.past k.few;
              are = k.whole_are ∙ sym (k.left ∙ ap (λ (l : List Mark). fresh k.names (flat uses_of (grouped text k.parts l))) none);
            };
      }

  left_with : (m : Mark) → r.mark ≡ m → slots_of (tags_of text) ≡ fresh k.names (flat uses_of (grouped text k.parts (marked m (rest_of text levels' r))))
  left_with m g = k.left ∙ ap (λ (l : List Mark). fresh k.names (flat uses_of (grouped text k.parts l))) (next.rest ∙ ap (λ (x : Mark). marked x (rest_of text levels' r)) g)

  -- a tag that ends settles the names of its parts
  ended : (a s d : ℕ) → r.mark ≡ Tagged a s d → slots_of (tags_of text) ≡ fresh (fresh k.names (flat uses_in k.parts)) (flat uses_of (grouped text [] (rest_of text levels' r)))
  unfolding grouped flat
  ended a s d g = left_with (Tagged a s d) g ∙ fresh_append (flat uses_in k.parts) k.names (flat uses_of (grouped text [] (rest_of text levels' r)))

  pub slots_both : AddRoom text slots n (value_from r.mark) (value_to r.mark)
  slots_both = record { fits = k.fits; name = record { first = next.first; quote = next.quote } }

  module _ (found : Bool) (e : found ≡ is_mark r.mark) (q : found ≡ true) (ends : Bool) (t : ends ≡ ends_tag r.mark) where
    pub slots_less : length text - r.index < length text - w.index
    slots_less = let more = next.further (sym e ∙ q) in let i = next.standing.within in omega arith

    and_left : (a b : Bool) → (a && b) ≡ true → a ≡ true
    and_left true b h = refl
    and_left false b h = h

    and_right : (a b : Bool) → (a && b) ≡ true → b ≡ true
    and_right true b h = h
    and_right false b h = absurd (let z : ◌≡◌ {A = ℕ} 0 1 = cc in omega arith)

    pub slots_many : (many : TooMany) → (ends && ltb 768 n) ≡ true → Gathered text levels' slots (Err many)
    slots_many many h =
        record { begun = record { short = k.standing.short; deep = next.standing.room; room = k.fits.room }; slots_are_lem = by r.mark refl }
      where
        over : 768 < n
        over = ltb-true 768 n (and_right ends (ltb 768 n) h)

        by : (m : Mark) → r.mark ≡ m → 768 < length (slots_of (tags_of text))
        by Nothing g = absurd (let x : true ≡ false = sym (sym t ∙ and_left ends (ltb 768 n) h) ∙ ap ends_tag g in let z : ◌≡◌ {A = ℕ} 0 1 = cc in omega arith)
        by (Valued d v a b) g = absurd (let x : true ≡ false = sym (sym t ∙ and_left ends (ltb 768 n) h) ∙ ap ends_tag g in let z : ◌≡◌ {A = ℕ} 0 1 = cc in omega arith)
        by (Tagged a s d) g =
            let m = k.held.many over in
            let more = fresh_grows (flat uses_of (grouped text [] (rest_of text levels' r))) (fresh k.names (flat uses_in k.parts)) in
            rw (ended a s d g) (omega arith)

    no_parts : (names : List (List ℕ)) (cells : List ℕ) (c : ℕ) → Held text cells c (fresh names []) → Held text cells c (fresh names (flat uses_in []))
    unfolding flat
    no_parts names cells c h = h

    module _ (fine : (ends && ltb 768 n) ≡ false) (whole' : ℕ) (u : whole' ≡ cond ends n whole) (slots' : List ℕ) (n' : ℕ) (by-mark : AddedBy text slots slots' n r.mark n') where
      pub slots_more : Gathering text levels' slots' r n' whole'
      unfolding grouped
      slots_more = by r.mark refl
        where
          by : (m : Mark) → r.mark ≡ m → Gathering text levels' slots' r n' whole'
          by Nothing g = absurd (let x : true ≡ false = sym (sym e ∙ q) ∙ ap is_mark g in let z : ◌≡◌ {A = ℕ} 0 1 = cc in omega arith)
          by (Valued d v a b) g =
              let p = part_at text d v a b in
              let G : Grows text slots slots' n n' (uses_in p) = subst (λ (m : Mark). Grows text slots slots' n n' (used_by text m)) g by-mark.grows in
              let stays : whole' ≡ whole = u ∙ ap (λ (z : Bool). cond z n whole) (t ∙ ap ends_tag g) in
              let gp = G.past in let kp = k.past in
              rw stays
              (record {
                standing = next.standing;
                fits = G.fits;
                few = k.few;
                parts = k.parts ++ p ∷ [];
                names = k.names;
                whole_are = kept_names text slots slots' n whole 0 (omega arith) G.kept ∙ k.whole_are;
                held =
                    subst (λ (l : List (List ℕ)). Held text slots' n' l) (sym (ap (fresh k.names) (flat_snoc k.parts p) ∙ fresh_append (flat uses_in k.parts) k.names (uses_in p)))
                    (G.held (fresh k.names (flat uses_in k.parts)) k.held);
                past = omega arith;
                left = left_with (Valued d v a b) g;
              })
          by (Tagged a s d) g =
              let G : Grows text slots slots' n n' [] = subst (λ (m : Mark). Grows text slots slots' n n' (used_by text m)) g by-mark.grows in
              let moves : whole' ≡ n = u ∙ ap (λ (z : Bool). cond z n whole) (t ∙ ap ends_tag g) in
              let room : n ≤ 768 = ltb-false 768 n (ap (λ (z : Bool). z && ltb 768 n) (sym (t ∙ ap ends_tag g)) ∙ fine) in
              rw moves
              (record {
                standing = next.standing;
                fits = G.fits;
                few = room;
                parts = [];
                names = fresh k.names (flat uses_in k.parts);
                whole_are = kept_names text slots slots' n n 0 (omega arith) G.kept ∙ k.held.are room;
                held = no_parts (fresh k.names (flat uses_in k.parts)) slots' n' (G.held (fresh k.names (flat uses_in k.parts)) k.held);
                past = G.past;
                left = ended a s d g;
              })
