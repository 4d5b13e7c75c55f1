-- Actions by their four cells.
use Rattle.std.specs.Prelude.{◌≡◌, refl, true, cond, List, [], ◌∷◌, ◌++◌, ℕ, zero, suc, ◌<◌, eqb, leb, ltb}
use Rattle.std.proofs.Common.{sym, ap, ◌∙◌, append_assoc}
use Rattle.std.proofs.Math.Option.{none, some}
use borrow.Author.Tests.{ltb-true}
use Rattle.definition.specs.declared.Action.{Action}
use Rattle.definition.specs.declared.Action.TheVariants.{Raise, Host, If, ElseIf, Else, End, Send, Cancel}
use Rattle.definition.specs.Tables.{no_number, most_delay, row_count, name_count, action_count, action_cell, action_of, action_at, name_at}
use Rattle.definition.specs.Rules.{optional_below}
use Rattle.laws.specs.Bools.{and3}
use Rattle.tables.specs.Ranges.{ActionIn, optional_below_lem}
use Rattle.tables.specs.Actions.{fits_number, number_fits}
use Rattle.reading.specs.Content.{Act, Row, raises, hosts, if_in, elseif_in, otherwise, end_if, sends, cancels}
use Rattle.reading.specs.Layout.{act_of, content}
use Rattle.reading.specs.Print.{number, condition, act_text}
use Rattle.spell.specs.Laid.{Laid, laid_as, laid_three}
use Rattle.spell.specs.Ready.{Ready, RowReady, NameReady, name_ready}
use Rattle.spell.specs.Sends.{sent_id, SendReady, send_rows, cancel_rows}

abbrev pub act_at : List ℕ → List ℕ → ℕ → Act
act_at numbers names a = act_of (name_at names) (action_cell numbers a 0) (action_cell numbers a 1) (action_cell numbers a 2) (action_cell numbers a 3)

-- these go by no row
raise_rows : (rs : List Row) (n : List ℕ) → act_text rs (raises n) ≡ act_text [] (raises n)
unfolding act_text
raise_rows rs n = refl

host_rows : (rs : List Row) (k : ℕ) → act_text rs (hosts k) ≡ act_text [] (hosts k)
unfolding act_text
host_rows rs k = refl

else_rows : (rs : List Row) → act_text rs otherwise ≡ act_text [] otherwise
unfolding act_text
else_rows rs = refl

end_rows : (rs : List Row) → act_text rs end_if ≡ act_text [] end_if
unfolding act_text
end_rows rs = refl

-- ---- each kind, part by part

module _ {place o1 o2 out : List ℕ} {from a1 a2 at : ℕ} where
  pub raise_spelt : (n : List ℕ) → Laid (60 ∷ 114 ∷ 97 ∷ 105 ∷ 115 ∷ 101 ∷ 32 ∷ 101 ∷ 118 ∷ 101 ∷ 110 ∷ 116 ∷ 61 ∷ 34 ∷ []) place from o1 a1 → Laid n o1 a1 o2 a2 → Laid (34 ∷ 47 ∷ 62 ∷ []) o2 a2 out at → Laid (act_text [] (raises n)) place from out at
  unfolding act_text
  raise_spelt n p q r = laid_three p q r _ (simp append_assoc)

  pub host_spelt : (k : ℕ) → Laid (60 ∷ 108 ∷ 111 ∷ 103 ∷ 32 ∷ 108 ∷ 97 ∷ 98 ∷ 101 ∷ 108 ∷ 61 ∷ 34 ∷ []) place from o1 a1 → Laid (number k) o1 a1 o2 a2 → Laid (34 ∷ 47 ∷ 62 ∷ []) o2 a2 out at → Laid (act_text [] (hosts k)) place from out at
  unfolding act_text
  host_spelt k p q r = laid_three p q r _ (simp append_assoc)

module _ {place out : List ℕ} {from at : ℕ} where
  pub if_spelt : (rs : List Row) (i : ℕ) → Laid ((60 ∷ 105 ∷ 102 ∷ []) ++ condition rs i ++ (62 ∷ [])) place from out at → Laid (act_text rs (if_in i)) place from out at
  unfolding act_text
  if_spelt rs i p = p

  pub else_if_spelt : (rs : List Row) (i : ℕ) → Laid ((60 ∷ 101 ∷ 108 ∷ 115 ∷ 101 ∷ 105 ∷ 102 ∷ []) ++ condition rs i ++ (47 ∷ 62 ∷ [])) place from out at → Laid (act_text rs (elseif_in i)) place from out at
  unfolding act_text
  else_if_spelt rs i p = p

  pub else_spelt : Laid (60 ∷ 101 ∷ 108 ∷ 115 ∷ 101 ∷ 47 ∷ 62 ∷ []) place from out at → Laid (act_text [] otherwise) place from out at
  unfolding act_text
  else_spelt p = p

  pub end_spelt : Laid (60 ∷ 47 ∷ 105 ∷ 102 ∷ 62 ∷ []) place from out at → Laid (act_text [] end_if) place from out at
  unfolding act_text
  end_spelt p = p

-- ---- an action by its cells

-- what the writer reads of an action, as the content has it
abbrev pub act_from : (ℕ → List ℕ) → Action → Act
act_from name (Raise n) = raises (name n)
act_from name (Host n) = hosts n
act_from name (If i) = if_in i
act_from name (ElseIf i) = elseif_in i
act_from name Else = otherwise
act_from name End = end_if
act_from name (Send n delay id) = sends (name n) delay (cond (eqb id no_number) none (some (name id)))
act_from name (Cancel n) = cancels (name n)

cells_read : (name : ℕ → List ℕ) (k x y z : ℕ) → act_of name k x y z ≡ act_from name (action_of k x y z)
cells_read name zero x y z = refl
cells_read name (suc zero) x y z = refl
cells_read name (suc (suc zero)) x y z = refl
cells_read name (suc (suc (suc zero))) x y z = refl
cells_read name (suc (suc (suc (suc zero)))) x y z = refl
cells_read name (suc (suc (suc (suc (suc zero))))) x y z = refl
cells_read name (suc (suc (suc (suc (suc (suc zero)))))) x y z = refl
cells_read name (suc (suc (suc (suc (suc (suc (suc k))))))) x y z = refl

pub record ActionReady (numbers names : List ℕ) (a : ℕ) : Type 0 where
  pub ready : Ready numbers names
  pub below : a < action_count numbers

module _ (numbers names : List ℕ) (a : ℕ) (h : ActionReady numbers names a) where
  pub action_in_lem : ActionIn numbers a
  action_in_lem = record { tables = h.ready.tables; below = h.below }

  name_below : (n : ℕ) → ltb n (name_count numbers) ≡ true → NameReady names n
  name_below n f = name_ready numbers names h.ready n (ltb-true n (name_count numbers) f)

  row_below : (i : ℕ) → ltb i (row_count numbers) ≡ true → RowReady numbers names i
  row_below i f = record { ready = h.ready; below = ltb-true i (row_count numbers) f }

  -- ---- what an action names is there

  pub raise_ready : (n : ℕ) → fits_number numbers (Raise n) ≡ true → NameReady names n
  unfolding fits_number
  raise_ready n f = name_below n f

  pub if_ready : (i : ℕ) → fits_number numbers (If i) ≡ true → RowReady numbers names i
  unfolding fits_number
  if_ready i f = row_below i f

  -- the same by its cells
  pub if_row : action_cell numbers a 0 ≡ 2 → (i : ℕ) → i ≡ action_cell numbers a 1 → RowReady numbers names i
  if_row e i q = if_ready i (ap (fits_number numbers) (sym here) ∙ number_fits numbers a action_in_lem)
    where
      here : action_at numbers a ≡ If i
      here = unfold action_at in rw e (ap If (sym q))

  pub else_if_ready : (i : ℕ) → fits_number numbers (ElseIf i) ≡ true → RowReady numbers names i
  unfolding fits_number
  else_if_ready i f = row_below i f

  pub send_ready : (n delay id : ℕ) → fits_number numbers (Send n delay id) ≡ true → SendReady names n id
  unfolding fits_number
  send_ready n delay id f =
      let g = and3 (ltb n (name_count numbers)) (leb delay most_delay) (optional_below (name_count numbers) id) f in
      record {
        event = name_below n g.0;
        id = record { named = λ d. name_ready numbers names h.ready id (optional_below_lem (name_count numbers) id g.2 d) };
      }

  pub cancel_ready : (n : ℕ) → fits_number numbers (Cancel n) ≡ true → NameReady names n
  unfolding fits_number
  cancel_ready n f = name_below n f

  -- ---- an action as its function lays it

  module _ {place out : List ℕ} {from at : ℕ} where
    act_laid : (act : Action) → act ≡ action_at numbers a → Laid (act_text (content numbers names).rows (act_from (name_at names) act)) place from out at → Laid (act_text (content numbers names).rows (act_at numbers names a)) place from out at
    unfolding action_at
    act_laid act e l = laid_as (ap (act_text (content numbers names).rows) (cells_read (name_at names) (action_cell numbers a 0) _ _ _ ∙ ap (act_from (name_at names)) (sym e))) l

    pub raise_laid : (n : ℕ) → Raise n ≡ action_at numbers a → Laid (act_text [] (raises (name_at names n))) place from out at → Laid (act_text (content numbers names).rows (act_at numbers names a)) place from out at
    raise_laid n e l = act_laid (Raise n) e (laid_as (raise_rows _ _) l)

    pub host_laid : (n : ℕ) → Host n ≡ action_at numbers a → Laid (act_text [] (hosts n)) place from out at → Laid (act_text (content numbers names).rows (act_at numbers names a)) place from out at
    host_laid n e l = act_laid (Host n) e (laid_as (host_rows _ _) l)

    pub if_laid : (i : ℕ) → If i ≡ action_at numbers a → Laid (act_text (content numbers names).rows (if_in i)) place from out at → Laid (act_text (content numbers names).rows (act_at numbers names a)) place from out at
    if_laid i e l = act_laid (If i) e l

    pub else_if_laid : (i : ℕ) → ElseIf i ≡ action_at numbers a → Laid (act_text (content numbers names).rows (elseif_in i)) place from out at → Laid (act_text (content numbers names).rows (act_at numbers names a)) place from out at
    else_if_laid i e l = act_laid (ElseIf i) e l

    pub else_laid : Else ≡ action_at numbers a → Laid (act_text [] otherwise) place from out at → Laid (act_text (content numbers names).rows (act_at numbers names a)) place from out at
    else_laid e l = act_laid Else e (laid_as (else_rows _) l)

    pub end_laid : End ≡ action_at numbers a → Laid (act_text [] end_if) place from out at → Laid (act_text (content numbers names).rows (act_at numbers names a)) place from out at
    end_laid e l = act_laid End e (laid_as (end_rows _) l)

    pub send_laid : (n delay id : ℕ) → Send n delay id ≡ action_at numbers a → Laid (act_text [] (sends (name_at names n) delay (sent_id names id))) place from out at →
        Laid (act_text (content numbers names).rows (act_at numbers names a)) place from out at
    send_laid n delay id e l = act_laid (Send n delay id) e (laid_as (send_rows _ _ _ _) l)

    pub cancel_laid : (n : ℕ) → Cancel n ≡ action_at numbers a → Laid (act_text [] (cancels (name_at names n))) place from out at → Laid (act_text (content numbers names).rows (act_at numbers names a)) place from out at
    cancel_laid n e l = act_laid (Cancel n) e (laid_as (cancel_rows _ _) l)
