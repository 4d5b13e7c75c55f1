-- What a walk knows of the grammar: the bytes before its index are read, or the last of them is the first fault.
use Rattle.std.specs.Prelude.{◌≡◌, refl, Bool, true, false, not, ◌&&◌, cond, leb, List, ℕ, ◌+◌, ◌-◌, ◌≤◌, ◌<◌, eqb, length, get_or}
use Rattle.std.proofs.Common.{sym, ap, subst, ◌∙◌, arith, le-leb}
use Rattle.grammar.specs.declared.Place.{Place}
use Rattle.grammar.specs.Grammar.{State, next, is_dead, is_content, accepts, grammar_fault, in_grammar}
use Rattle.markup.specs.declared.Cursor.{Cursor}
use Rattle.markup.specs.declared.Fault.{Fault}
use Rattle.std.specs.declared.option.Option.{Option}
use Rattle.std.specs.declared.result.Result.{Result}
use Rattle.std.specs.declared.result.Result.TheVariants.{Ok, Err}
use Rattle.markup.specs.Stack.{levels, is_live, place_in, top_in, depth_in, state_at, state_of}
use Rattle.markup.specs.Passes.{Reached, reached_more, dead_at, dead_not, end_at, end_whole, Found, finished}

pub record Told (text xs : List ℕ) (c : Option Cursor) (i : ℕ) : Type 0 where
  pub reached : (is_live c) ≡ true → Reached text i (state_of xs c)
  pub behind : (is_live c) ≡ false → 1 ≤ i
  pub fault : (is_live c) ≡ false → Found text (Err (record { at = i - 1 }))

no_live : {A : Type 0} → true ≡ false → A
no_live e = absurd (let z : ◌≡◌ {A = ℕ} 0 1 = cc in omega arith)

pub told_alive : (text xs : List ℕ) (c : Option Cursor) (i : ℕ) → (is_live c) ≡ true → Reached text i (state_of xs c) → Told text xs c i
told_alive text xs c i e r = record { reached = λ h. r; behind = λ h. no_live (sym e ∙ h); fault = λ h. no_live (sym e ∙ h) }

dead_so : (b : Bool) (p : Place) (t : ℕ) (st : List ℕ) → is_dead (state_at b p t st) ≡ not b
dead_so true p t st = refl
dead_so false p t st = refl

-- one byte more
module _ (text : List ℕ) (i : ℕ) (s : State) (r : Reached text i s) (in_text_lem : i < length text) (in_most : i < 32768)
    (ys : List ℕ) (c : Option Cursor) (b : ℕ) (here : b ≡ get_or text i 0) (steps : state_of ys c ≡ next s b) where
  is_next : state_of ys c ≡ next s (get_or text i 0)
  is_next = steps ∙ ap (next s) here

  dies : is_dead (next s (get_or text i 0)) ≡ not (is_live c)
  dies = ap is_dead (sym is_next) ∙ dead_so (is_live c) (place_in c) (top_in c) (levels ys (depth_in c))

  pub told_step : Told text ys c (i + 1)
  told_step =
      record {
        reached = λ e. subst (Reached text (i + 1)) (sym is_next) (reached_more text i s r in_text_lem in_most (dies ∙ ap not e));
        behind = λ e. omega arith;
        fault = λ e.
            subst (λ (n : ℕ). Found text (Err (record { at = n }))) (less i) (dead_at text i s r in_text_lem in_most (dies ∙ ap not e), dead_not text i s r in_text_lem (dies ∙ ap not e));
      }
    where
      less : (i : ℕ) → i ≡ i + 1 - 1
      less i = omega arith

-- all bytes are read
pub told_whole : (text xs : List ℕ) (c : Option Cursor) (i : ℕ) → Told text xs c i → is_live c ≡ true → i ≡ length text → length text ≤ 32768 →
    (z : Result (Unit {0}) Fault) → z ≡ finished (length text) (place_in c) (top_in c) i → Found text z
unfolding finished accepts
told_whole text xs c i k e q short z f = subst (λ (y : Result (Unit {0}) Fault). Found text y) (sym (f ∙ ap (λ (b : Bool). cond b (Ok (tt {0})) (Err (record { at = i }))) all)) (by (is_content (place_in c) && eqb (top_in c) 1) refl)
  where
    all : (leb (length text) i && is_content (place_in c) && eqb (top_in c) 1) ≡ (is_content (place_in c) && eqb (top_in c) 1)
    all = ap (λ (b : Bool). b && is_content (place_in c) && eqb (top_in c) 1) (le-leb (length text) i (omega arith))

    first : i ≡ grammar_fault text
    first = end_at text i (state_of xs c) (k.reached e) (omega arith) (omega arith)

    whole : (is_content (place_in c) && eqb (top_in c) 1) ≡ in_grammar text
    whole =
        end_whole text i (state_of xs c) (k.reached e) (is_content (place_in c) && eqb (top_in c) 1) (omega arith) (omega arith)
        (sym (ap (λ (a : Bool). accepts (state_at a (place_in c) (top_in c) (levels xs (depth_in c)))) e))

    by : (b : Bool) → (is_content (place_in c) && eqb (top_in c) 1) ≡ b → Found text (cond b (Ok (tt {0})) (Err (record { at = i })))
    by true h = (sym q ∙ first, sym h ∙ whole)
    by false h = (first, sym h ∙ whole)
