-- A text as written is read into the tags that were written, with their offsets, if each tag may stand where it stands.
use Rattle.std.specs.Prelude.{◌≡◌, true, ℕ, ◌+◌}
use Rattle.std.proofs.Math.Path.{refl}
use Rattle.std.proofs.Common.{ap, ◌∙◌}
use mathlib.Core.List.{List, [], ◌∷◌, ◌++◌}
use Rattle.grammar.specs.declared.Place.TheVariants.{Content, Tag, Slash}
use Rattle.grammar.specs.declared.Step.TheVariants.{Go, Open}
use Rattle.grammar.specs.Grammar.{is_space, is_char, is_complete, may_end, after, opens, tag_step, only, step_of, live, next, run}
use Rattle.reading.specs.Tags.{Part, opening, empty, closing, Markup, noted, emitted, tags_from}
use Rattle.written.specs.Pieces.{Attr, Piece, word_text, attrs_onto, text_of, parts_at, behind_attrs, attrs_at, piece_onto, markup_at, behind_piece, tags_at, draft}
use Rattle.written.specs.Begins.{May, Behind, space, end, slash, Ends, closes, closes_run}
use Rattle.written.specs.BeginTags.{begins}
use Rattle.written.specs.BeginRuns.{begins_run}
use Rattle.written.specs.Walks.{Stated, last_from, attrs_run, attrs_tags}

-- ---- the end of a start tag

module _ (e y t : ℕ) (st : List ℕ) (whole : is_complete e y ≡ true) where
  open_step : step_of (Tag e y) t 62 ≡ Open t (opens e y)
  unfolding step_of tag_step is_space
  open_step = rw whole

  open_run : (rest : List ℕ) → run (live (Tag e y) t st) (62 ∷ rest) ≡ run (live Content (opens e y) (t ∷ st)) rest
  unfolding run next is_char
  open_run rest = rw open_step

  open_tags : (at : ℕ) (ps : List Part) (from i : ℕ) (rest : List ℕ) →
      tags_from (live (Tag e y) t st) (draft at e ps from []) i (62 ∷ rest) ≡
      record { at = at; shape = opening; element = e; parts = ps } ∷ tags_from (live Content (opens e y) (t ∷ st)) (draft at e [] (i + 1) []) (i + 1) rest
  unfolding tags_from noted emitted next is_char
  open_tags at ps from i rest = rw open_step

  module _ (may : may_end (opens e y) ≡ true) where
    slash_step : step_of (Tag e y) t 47 ≡ Go Slash t
    unfolding step_of tag_step is_space
    slash_step = rw (whole, may)

    empty_run : (rest : List ℕ) → run (live (Tag e y) t st) (47 ∷ 62 ∷ rest) ≡ run (live Content t st) rest
    unfolding run next is_char only step_of
    empty_run rest = rw slash_step

    empty_tags : (at : ℕ) (ps : List Part) (from i : ℕ) (rest : List ℕ) →
        tags_from (live (Tag e y) t st) (draft at e ps from []) i (47 ∷ 62 ∷ rest) ≡
        record { at = at; shape = empty; element = e; parts = ps } ∷ tags_from (live Content t st) (draft at e [] (i + 1 + 1) []) (i + 1 + 1) rest
    unfolding tags_from noted emitted next is_char only
    empty_tags at ps from i rest = rw slash_step ended
      where
        ended : tags_from (live Slash t st) (draft at e ps (i + 1) []) (i + 1) (62 ∷ rest) ≡
            record { at = at; shape = empty; element = e; parts = ps } ∷ tags_from (live Content t st) (draft at e [] (i + 1 + 1) []) (i + 1 + 1) rest
        ended = unfold step_of in refl

-- ---- a name with what is behind it

module _ (t e : ℕ) (may : May t e) (st : List ℕ) where
  name_run : (b : ℕ) → Behind b → (xs : List Attr) (rest : List ℕ) → run (live Content t st) (60 ∷ (word_text e ++ attrs_onto e xs (b ∷ rest))) ≡ run (live (Tag e 0) (after t e) st) (attrs_onto e xs (b ∷ rest))
  unfolding attrs_onto
  name_run b n [] rest = begins_run t e b may n st rest
  name_run b n (a ∷ xs) rest = begins_run t e 32 may space st _

  name_tags : (b : ℕ) → Behind b → (xs : List Attr) (rest : List ℕ) (at old from i : ℕ) →
      tags_from (live Content t st) (draft at old [] from []) i (60 ∷ (word_text e ++ attrs_onto e xs (b ∷ rest))) ≡
      tags_from (live (Tag e 0) (after t e) st) (draft i e [] (attrs_at i e) []) (attrs_at i e) (attrs_onto e xs (b ∷ rest))
  unfolding attrs_onto
  name_tags b n [] rest at old from i = begins t e b may n st at old from i rest
  name_tags b n (a ∷ xs) rest at old from i = begins t e 32 may space st at old from i _

-- ---- a tag

-- the tag may stand at the level t inside st, and leads to u inside su
pub data Goes : ℕ → List ℕ → Piece → ℕ → List ℕ → Type 0 where
  starts : {t e y : ℕ} {st : List ℕ} {xs : List Attr} → May t e → Stated e 0 xs y → is_complete e y ≡ true →
      Goes t st (record { shape = opening; element = e; attrs = xs }) (opens e y) (after t e ∷ st)
  stands : {t e y : ℕ} {st : List ℕ} {xs : List Attr} → May t e → Stated e 0 xs y → is_complete e y ≡ true → may_end (opens e y) ≡ true →
      Goes t st (record { shape = empty; element = e; attrs = xs }) (after t e) st
  shuts : {t e u : ℕ} {st : List ℕ} → Ends t e → Goes t (u ∷ st) (record { shape = closing; element = e; attrs = [] }) u st

piece_run : {t : ℕ} {st : List ℕ} {p : Piece} {u : ℕ} {su : List ℕ} → Goes t st p u su → (rest : List ℕ) → run (live Content t st) (piece_onto p rest) ≡ run (live Content u su) rest
piece_run (starts {t = t} {e = e} {y = y} {st = st} {xs = xs} m a w) rest =
    name_run t e m st 62 end xs rest ∙ attrs_run e (after t e) st 0 y xs (62 ∷ rest) a ∙ open_run e y (after t e) st w rest
piece_run (stands {t = t} {e = e} {y = y} {st = st} {xs = xs} m a w z) rest =
    name_run t e m st 47 slash xs (62 ∷ rest) ∙ attrs_run e (after t e) st 0 y xs (47 ∷ 62 ∷ rest) a ∙ empty_run e y (after t e) st w z rest
piece_run (shuts {t = t} {e = e} {u = u} {st = st} m) rest = closes_run t e m u st rest

-- the last tag's "<" and element, which a reader keeps until the next
pub record Read (t : ℕ) (st : List ℕ) (p : Piece) (u : ℕ) (su : List ℕ) (at old from i : ℕ) (rest : List ℕ) : Type 0 where
  pub last : ℕ
  pub tags : tags_from (live Content t st) (draft at old [] from []) i (piece_onto p rest) ≡ markup_at i p ∷ tags_from (live Content u su) (draft i last [] (behind_piece i p) []) (behind_piece i p) rest

piece_tags : {t : ℕ} {st : List ℕ} {p : Piece} {u : ℕ} {su : List ℕ} → Goes t st p u su → (at old from i : ℕ) (rest : List ℕ) → Read t st p u su at old from i rest
piece_tags (starts {t = t} {e = e} {y = y} {st = st} {xs = xs} m a w) at old from i rest =
    record {
      last = e;
      tags =
          name_tags t e m st 62 end xs rest at old from i ∙ attrs_tags e (after t e) st 0 y i [] (attrs_at i e) (attrs_at i e) xs (62 ∷ rest) a ∙
          open_tags e y (after t e) st w i (parts_at (attrs_at i e) e xs) (last_from (attrs_at i e) (attrs_at i e) e xs) (behind_attrs (attrs_at i e) e xs) rest;
    }
piece_tags (stands {t = t} {e = e} {y = y} {st = st} {xs = xs} m a w z) at old from i rest =
    record {
      last = e;
      tags =
          name_tags t e m st 47 slash xs (62 ∷ rest) at old from i ∙ attrs_tags e (after t e) st 0 y i [] (attrs_at i e) (attrs_at i e) xs (47 ∷ 62 ∷ rest) a ∙
          empty_tags e y (after t e) st w z i (parts_at (attrs_at i e) e xs) (last_from (attrs_at i e) (attrs_at i e) e xs) (behind_attrs (attrs_at i e) e xs) rest;
    }
piece_tags (shuts {t = t} {e = e} {u = u} {st = st} m) at old from i rest = record { last = old; tags = closes t e m u st at old from i rest }

-- ---- tags one behind the other

pub data Fits : ℕ → List ℕ → List Piece → ℕ → List ℕ → Type 0 where
  over : {t : ℕ} {st : List ℕ} → Fits t st [] t st
  then : {t u v : ℕ} {st su sv : List ℕ} {p : Piece} {ps : List Piece} → Goes t st p u su → Fits u su ps v sv → Fits t st (p ∷ ps) v sv

pub fits_both : {t u v : ℕ} {st su sv : List ℕ} {ps qs : List Piece} → Fits t st ps u su → Fits u su qs v sv → Fits t st (ps ++ qs) v sv
fits_both over g = g
fits_both (then s f) g = then s (fits_both f g)

pub fits_one : {t u : ℕ} {st su : List ℕ} {p : Piece} → Goes t st p u su → Fits t st (p ∷ []) u su
fits_one s = then s over

-- the grammar's walk
pub text_run : {t u : ℕ} {st su : List ℕ} {ps : List Piece} → Fits t st ps u su → run (live Content t st) (text_of ps) ≡ live Content u su
unfolding text_of
text_run over = unfold run in refl
text_run (then {ps = ps} s f) = piece_run s (text_of ps) ∙ text_run f

-- the tags read are the tags written
pub text_tags : {t u : ℕ} {st su : List ℕ} {ps : List Piece} → Fits t st ps u su → (at old from i : ℕ) → tags_from (live Content t st) (draft at old [] from []) i (text_of ps) ≡ tags_at i ps
unfolding text_of tags_at
text_tags over at old from i = unfold tags_from in refl
text_tags (then {p = p} {ps = ps} s f) at old from i =
    let r = piece_tags s at old from i (text_of ps) in
    r.tags ∙ ap (λ (l : List Markup). markup_at i p ∷ l) (text_tags f i r.last (behind_piece i p) (behind_piece i p))
