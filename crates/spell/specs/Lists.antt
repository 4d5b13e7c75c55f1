-- Lists of names: names by their numbers, or ids by those of their rows.
use Rattle.std.specs.Prelude.{◌≡◌, refl, Bool, true, false, List, [], ◌∷◌, ◌++◌, map, ℕ, zero, suc, ◌+◌, ◌≤◌, ◌<◌, eqb, length, get_or, drop}
use Rattle.std.proofs.Common.{sym, ap, ◌∙◌, append_assoc, append-nil, arith, drop_of_length-le, drop-cons, eqb-true}
use Rattle.std.proofs.lemmas.Bool.{eqb-false}
use Rattle.std.proofs.Math.Numerals.{add-one}
use Rattle.definition.specs.Rows.{is_empty}
use Rattle.definition.specs.Tables.{row_count, name_count, name_at}
use Rattle.reading.specs.Layout.{content}
use Rattle.reading.specs.Print.{id_of, spaced, quoted, given}
use Rattle.spell.specs.Laid.{laid, after, Laid, laid_as, laid_none, laid_then, Left, left_turn, left_end}
use Rattle.spell.specs.declared.lists.Items.{Items}
use Rattle.spell.specs.declared.lists.Items.TheVariants.{Names, Rows}
use Rattle.spell.specs.Ready.{Ready, RowReady, NameReady, name_ready}

nothing : is_empty {A = ℕ} [] ≡ true
unfolding is_empty
nothing = refl

something : (x : ℕ) (l : List ℕ) → is_empty (x ∷ l) ≡ false
unfolding is_empty
something x l = refl

-- ---- one item

abbrev pub item : List ℕ → List ℕ → Items → ℕ → List ℕ
item numbers names Rows x = id_of (content numbers names).rows x
item numbers names Names x = name_at names x

abbrev pub ItemIn : List ℕ → Items → ℕ → Type 0
ItemIn numbers Rows x = x < row_count numbers
ItemIn numbers Names x = x < name_count numbers

pub record ItemReady (numbers names : List ℕ) (are : Items) (x : ℕ) : Type 0 where
  pub ready : Ready numbers names
  pub inside : ItemIn numbers are x

module _ (numbers names : List ℕ) (are : Items) (x : ℕ) (h : ItemReady numbers names are x) where
  pub item_row : are ≡ Rows → RowReady numbers names x
  item_row e = record { ready = h.ready; below = rw e at h.inside }

  pub item_name : are ≡ Names → NameReady names x
  item_name e = name_ready numbers names h.ready x (rw e at h.inside)

  pub item_id_laid : are ≡ Rows → {place out : List ℕ} {from at : ℕ} → Laid (id_of (content numbers names).rows x) place from out at → Laid (item numbers names are x) place from out at
  item_id_laid e l = laid_as (rw e) l

  pub item_name_laid : are ≡ Names → {place out : List ℕ} {from at : ℕ} → Laid (name_at names x) place from out at → Laid (item numbers names are x) place from out at
  item_name_laid e l = laid_as (rw e) l

-- ---- items with a space between

-- the space before item k
abbrev pub gap : ℕ → List ℕ
gap zero = []
gap (suc k) = 32 ∷ []

pub gap_first : (k : ℕ) → k ≡ 0 → {out : List ℕ} {at : ℕ} → Laid (gap k) out at out at
gap_first k e = laid_as (ap gap e) laid_none

pub gap_next : (k : ℕ) → (k ≡ 0 → ⊥) → {place out : List ℕ} {from at : ℕ} → Laid (32 ∷ []) place from out at → Laid (gap k) place from out at
gap_next zero d l = absurd (d refl)
gap_next (suc k) d l = l

-- the names from number k on
unfoldable pub spaced_from : ℕ → List (List ℕ) → List ℕ
spaced_from k [] = []
spaced_from k (n ∷ ns) = gap k ++ n ++ spaced_from (suc k) ns

behind_first : (k : ℕ) (n : List ℕ) (ns : List (List ℕ)) → spaced_from (suc k) (n ∷ ns) ≡ 32 ∷ spaced (n ∷ ns)
unfolding spaced_from spaced
behind_first k n [] = ap (λ (l : List ℕ). 32 ∷ l) (append-nil n)
behind_first k n (m ∷ ns) = ap (λ (l : List ℕ). 32 ∷ (n ++ l)) (behind_first (suc k) m ns)

pub spaced_from_lem : (ns : List (List ℕ)) → spaced ns ≡ spaced_from 0 ns
unfolding spaced_from spaced
spaced_from_lem [] = refl
spaced_from_lem (n ∷ []) = sym (append-nil n)
spaced_from_lem (n ∷ m ∷ ns) = ap (λ (l : List ℕ). n ++ l) (sym (behind_first 0 m ns))

pub record ItemsReady (numbers names : List ℕ) (are : Items) (list : List ℕ) : Type 0 where
  pub ready : Ready numbers names
  pub inside : (k : ℕ) → k < length list → ItemIn numbers are (get_or list k 0)

pub record Listing (numbers names : List ℕ) (are : Items) (list place : List ℕ) (from : ℕ) (out : List ℕ) (at k : ℕ) : Type 0 where
  pub items : ItemsReady numbers names are list
  pub left : Left (spaced (map (item numbers names are) list)) place from (spaced_from k (map (item numbers names are) (drop k list))) out at

module _ (numbers names : List ℕ) (are : Items) (list place : List ℕ) (from : ℕ) where
  pub items_begin : ItemsReady numbers names are list → Listing numbers names are list place from place from 0
  items_begin h =
      record { items = h; left = record { is = ap (λ (t : List ℕ). laid t place from) (sym (spaced_from_lem (map (item numbers names are) list))); next = ap (λ (t : List ℕ). after t from) (sym (spaced_from_lem (map (item numbers names are) list))); size = refl } }

  module _ (out : List ℕ) (at k : ℕ) (h : Listing numbers names are list place from out at k) where
    pub items_item : k < length list → ItemReady numbers names are (get_or list k 0)
    items_item l = record { ready = h.items.ready; inside = h.items.inside k l }

    pub items_turn : k < length list → {between out' : List ℕ} {middle at' : ℕ} → Laid (gap k) out at between middle → Laid (item numbers names are (get_or list k 0)) between middle out' at' →
        Listing numbers names are list place from out' at' (k + 1)
    unfolding spaced_from
    items_turn l p q =
        record {
          items = h.items;
          left =
              left_turn h.left
              (rw (drop-cons list k 0 l, add-one k) refl)
              (laid_then p q);
        }

    pub items_end : length list ≤ k → Laid (spaced (map (item numbers names are) list)) place from out at
    unfolding spaced_from
    items_end l = left_end h.left (rw (drop_of_length-le list l))

-- ---- the attribute of a list

-- the list of an accepted chart is empty where its text is
pub record ListReady (numbers names : List ℕ) (are : Items) (list : List ℕ) : Type 0 where
  pub items : ItemsReady numbers names are list
  pub filled : is_empty (spaced (map (item numbers names are) list)) ≡ is_empty list

module _ (numbers names word : List ℕ) (are : Items) (list : List ℕ) (h : ListReady numbers names are list) where
  pub list_none : (b : Bool) → b ≡ eqb (length list) 0 → b ≡ true → {out : List ℕ} {at : ℕ} → Laid (given word (spaced (map (item numbers names are) list))) out at out at
  list_none b f e = by list h.filled (eqb-true (length list) 0 (sym f ∙ e))
    where
      by : (l : List ℕ) → is_empty (spaced (map (item numbers names are) list)) ≡ is_empty l → length l ≡ 0 → {out : List ℕ} {at : ℕ} → Laid (given word (spaced (map (item numbers names are) list))) out at out at
      by [] f q = laid_as (rw (f ∙ nothing)) laid_none
      by (x ∷ l) f q = absurd (omega arith)

  pub list_some : (b : Bool) → b ≡ eqb (length list) 0 → b ≡ false → {place a b c out : List ℕ} {from i j k at : ℕ} → Laid word place from a i → Laid (34 ∷ []) a i b j → Laid (spaced (map (item numbers names are) list)) b j c k →
      Laid (34 ∷ []) c k out at → Laid (given word (spaced (map (item numbers names are) list))) place from out at
  list_some b f e p q r s = laid_as (picked list h.filled (eqb-false (length list) 0 (sym f ∙ e)) ∙ regroup) (laid_then (laid_then (laid_then p q) r) s)
    where
      text : List ℕ
      text = spaced (map (item numbers names are) list)

      picked : (l : List ℕ) → is_empty text ≡ is_empty l → (length l ≡ 0 → ⊥) → given word text ≡ word ++ quoted text
      picked [] f q = absurd (q refl)
      picked (x ∷ l) f q = rw (f ∙ something x l)

      regroup : word ++ quoted text ≡ word ++ (34 ∷ []) ++ text ++ (34 ∷ [])
      regroup = simp append_assoc
