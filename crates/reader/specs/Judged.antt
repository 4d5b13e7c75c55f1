-- Whether a text is refused with 12, and where.
use Rattle.std.proofs.Math.Path.{◌≡◌, sym, ap}
use Rattle.std.specs.Prelude.{refl, Bool, true, false, not, List, ℕ, ◌-◌, ◌≤◌, ◌<◌, length, take, drop}
use Rattle.std.proofs.Common.{◌∙◌, arith, length-take, take-take}
use Rattle.std.proofs.Math.Option.{Option, none, some}
use borrow.Author.Tests.{lt-leb}
use Rattle.grammar.specs.Grammar.{in_grammar, grammar_fault, start, live_bytes}
use Rattle.markup.specs.Passes.{Found}
use Rattle.reading.specs.Tags.{tags_of}
use Rattle.reading.specs.Faults.{first_fault}
use Rattle.reading.specs.Layout.{faulty, read_of, searched}
use Rattle.std.specs.declared.option.Option.{Option as program}
use Rattle.std.specs.declared.option.Option.TheVariants.{Some, None}
use Rattle.std.specs.declared.result.Result.{Result}
use Rattle.std.specs.declared.result.Result.TheVariants.{Ok, Err}
use Rattle.markup.specs.declared.Fault.{Fault}
use Rattle.values.specs.Items.{found_of}
use Rattle.gather.specs.Ids.{Begun, Gathered}
use Rattle.gather.specs.Faults.{Searched}

-- the places that the walks work in: a level for each byte, three numbers for each id that a text can have and one for each of 1,024 keys
pub record Places (levels ids : List ℕ) : Type 0 where
  pub deep : length levels ≡ 32768
  pub room : length ids ≡ 24434

-- the text is of the grammar and has no fault
pub record WellRead (text levels ids : List ℕ) (n : ℕ) : Type 0 where
  pub gathered : Gathered text levels ids n
  pub is_text_lem : in_grammar text ≡ true
  pub no_fault : first_fault (tags_of text) ≡ none

abbrev pub JudgedAs : List ℕ → List ℕ → List ℕ → Result ℕ Fault → Type 0
JudgedAs text levels ids (Err f) = read_of text ≡ faulty f.at
JudgedAs text levels ids (Ok n) = WellRead text levels ids n

pub judge_begun : (text levels ids : List ℕ) → length text ≤ 32768 → length levels ≡ 32768 → length ids ≡ 24434 → Begun text levels ids
judge_begun text levels ids s d r = record { short = s; deep = d; room = r }

module _ (text : List ℕ) where
  -- what is read of a text that is too long
  abbrev pub head : List ℕ
  head = take 32768 text

  pub judge_head : (levels ids : List ℕ) → length levels ≡ 32768 → length ids ≡ 24434 → Begun head levels ids
  judge_head levels ids d r = record { short = simp length-take (omega arith); deep = d; room = r }

  pub judge_long : 32768 < length text → (at : ℕ) → at ≡ grammar_fault head → read_of text ≡ faulty at
  unfolding read_of in_grammar grammar_fault
  judge_long long at e =
      rw (lt-leb (length text) 32768 long)
      (ap faulty (sym (e ∙ ap (live_bytes start) (take-take 32768 32768 text (omega arith)))))

  pub head_faulty : 32768 < length text → (f : Fault) → Found head (Err f) → read_of text ≡ faulty f.at
  head_faulty long f found = judge_long long f.at found.0

  -- the first bytes are a text of their own
  pub head_whole : 32768 < length text → Found head (Ok (tt {0})) → read_of text ≡ faulty 32768
  head_whole long found = judge_long long 32768 (all ∙ found.0)
    where
      all : 32768 ≡ length head
      all = simp length-take (omega arith)

  pub judge_outside : (f : Fault) → Found text (Err f) → read_of text ≡ faulty f.at
  unfolding read_of
  judge_outside f found = rw (sym found.1) (ap faulty (sym found.0))

  module _ (found : Found text (Ok (tt {0}))) (levels ids : List ℕ) (n : ℕ) (fault : program ℕ) (s : Searched text levels ids n fault) where
    pub judge_fault : (i : ℕ) → fault ≡ Some i → read_of text ≡ faulty i
    unfolding read_of
    judge_fault i e = rw (sym found.1) (by (first_fault (tags_of text)) refl)
      where
        by : (o : Option ℕ) → first_fault (tags_of text) ≡ o → searched (first_fault (tags_of text)) (tags_of text) ≡ faulty i
        by none o = absurd (let x : Some i ≡ None = sym e ∙ s.is ∙ ap found_of o in let z : ◌≡◌ {A = ℕ} 0 1 = cc in omega arith)
        by (some j) o = let x : Some i ≡ Some j = sym e ∙ s.is ∙ ap found_of o in let same : j ≡ i = cc in rw o (ap faulty same)

    pub judge_well : fault ≡ None → WellRead text levels ids n
    judge_well e = record { gathered = s.gathered; is_text_lem = sym found.1; no_fault = by (first_fault (tags_of text)) refl }
      where
        by : (o : Option ℕ) → first_fault (tags_of text) ≡ o → first_fault (tags_of text) ≡ none
        by none o = o
        by (some j) o = absurd (let x : None ≡ Some j = sym e ∙ s.is ∙ ap found_of o in let z : ◌≡◌ {A = ℕ} 0 1 = cc in omega arith)
