-- The cells of a text's lists and blocks, counted and held against rule 1.
use Rattle.std.specs.declared.result.Result.{Result}
use Rattle.std.specs.declared.result.Result.TheVariants.{Ok, Err}
use Rattle.std.specs.Prelude.{◌≡◌, refl, Bool, true, not, List, ℕ, zero, suc, ◌+◌, ◌≤◌, ◌<◌, length, get_or}
use Rattle.std.proofs.Common.{sym, ap, ap₂, subst, ◌∙◌, arith}
use Rattle.std.proofs.lemmas.Bool.{not-true}
use Rattle.reading.specs.Tags.{tags_of}
use Rattle.reading.specs.Faults.{ids_of}
use Rattle.reading.specs.Content.{Fact, content_from, content_of, slots_of}
use Rattle.values.specs.Ids.{Noted, ids_from, ids_length}
use Rattle.bins.specs.Bins.{start_of, counts_in, StartRoom, Started}
use Rattle.bins.specs.Binned.{Item}
use Rattle.items.specs.Items.{bin_count, Tallied}
use Rattle.items.specs.Order.{transitions_count}
use Rattle.items.specs.Held.{row_held, transition_held}
use Rattle.items.specs.Owners.{facts_owned}
use Rattle.items.specs.Ranking.{Cleared}
use Rattle.walks.specs.declared.plan.Plan.{Plan}
use Rattle.walks.specs.Plan.{text_facts, text_items, counts_of, lay_base, Named, FileRoom, FiledAll}
use Rattle.cells.specs.Starts.{Few}
use Rattle.cells.specs.Cells.{Held}
use Rattle.cells.specs.Totals.{TotalsRoom, is_within, over_size}
use Rattle.read_text.specs.declared.refused.Refusal.{Refusal}
use Rattle.read_text.specs.declared.refused.Refusal.TheVariants.{Many}
use Rattle.read_text.specs.Survey.{Oversize, PlannedBy}
use Rattle.read_text.specs.Bound.{tables_few}
use Rattle.walks.specs.declared.plan.Pass.{Pass}
use Rattle.walks.specs.declared.plan.Pass.TheVariants.{Count}

pub record FillRoom (text levels spots ids names ranks work next : List ℕ) (p : Plan) : Type 0 where
  pub deep : length levels ≡ 32768
  pub spots_room : length spots ≡ 16388
  pub work_room : length work ≡ 27756
  pub next_room : length next ≡ 2816
  pub planned : PlannedBy text ids names ranks p.rows p.transitions p.ids p.slots

-- the bins begin where the counts say, and end at s
pub record BegunBins (text ranks next : List ℕ) (p : Plan) (s : ℕ) : Type 0 where
  pub starts_are : (k : ℕ) → k < bin_count p.rows p.transitions →
      get_or next k 0 ≡ lay_base p.rows p.transitions + start_of (counts_of (text_items text ranks p.rows p.transitions)) k
  pub total : s ≡ lay_base p.rows p.transitions + start_of (counts_of (text_items text ranks p.rows p.transitions)) (bin_count p.rows p.transitions)
  pub fits : s ≤ 27756

abbrev pub CountedCase : List ℕ → List ℕ → List ℕ → Plan → Result ℕ Refusal → Type 0
CountedCase text ranks next p (Err e) = (e ≡ Many) × Oversize text
CountedCase text ranks next p (Ok s) = BegunBins text ranks next p s

pub record CountedAs (text ranks next : List ℕ) (p : Plan) (r : Result ℕ Refusal) : Type 0 where
  pub is : CountedCase text ranks next p r

-- ---- sums of equal counts

starts_same : (c d : ℕ → ℕ) (m : ℕ) → ((k : ℕ) → k < m → c k ≡ d k) → start_of c m ≡ start_of d m
unfolding start_of
starts_same c d zero h = refl
starts_same c d (suc m) h = let a = starts_same c d m (λ k l. h k (omega arith)) in let b = h m (omega arith) in omega arith

-- ---- what is held of a text

module _ (text ids names ranks : List ℕ) (n t i m : ℕ) (w : PlannedBy text ids names ranks n t i m) where
  abbrev fs : List Fact
  fs = text_facts text

  abbrev sl : List (List ℕ)
  sl = slots_of (tags_of text)

  abbrev its : List Item
  its = text_items text ranks n t

  pub few : Few n t
  few = record { rows = w.numbered.rows_few; transitions = w.numbered.transitions_few }

  pub rows_are : n ≡ length (content_from fs).rows
  unfolding content_of
  rows_are = w.numbered.rows_are

  pub transitions_are : t ≡ length (content_from fs).transitions
  transitions_are = w.numbered.ranked.many ∙ sym (transitions_count fs n rows_are)

  pub held : Held sl n t its (content_of (tags_of text))
  unfolding content_of
  held =
      record {
        rows_are = rows_are;
        transitions_are = transitions_are;
        row = row_held sl fs n t ranks rows_are;
        transition = transition_held sl fs n t ranks rows_are w.numbered.ranked (facts_owned (ids_of (tags_of text)) (tags_of text));
      }

  pub plan_named : (p : Plan) → p.rows ≡ n → p.transitions ≡ t → p.ids ≡ i → p.slots ≡ m → Named text ids names p
  plan_named p a b c d =
      let r = w.numbered.rows_few in let q = w.numbered.transitions_few in
      record {
        ids_noted = subst (Noted text ids) (sym c) w.ids_noted;
        ids_are = ap (λ (k : ℕ). ids_from text ids k 0) c ∙ w.ids_are;
        slots_noted = subst (Noted text names) (sym d) w.names_noted;
        slots_are_lem = ap (λ (k : ℕ). ids_from text names k 0) d ∙ w.names_are;
        clean = w.well.is.no_fault;
        rows_few = omega arith;
        transitions_few = omega arith;
      }

  pub plan_short : length text ≤ 32768
  plan_short = w.ids_noted.short

  pub names_long : length sl ≡ m
  names_long = ap length (sym w.names_are) ∙ ids_length text names m 0

-- ---- counting

abbrev pub plan_with : Plan → Pass → Plan
plan_with p z = record { rows = p.rows; transitions = p.transitions; ids = p.ids; slots = p.slots; pass = z }

module _ (text levels spots ids names ranks work next : List ℕ) (p : Plan) (r : FillRoom text levels spots ids names ranks work next p) where
  pub count_clear : bin_count p.rows p.transitions ≤ length next
  count_clear = let a = r.planned.numbered.rows_few in let b = r.planned.numbered.transitions_few in let l = r.next_room in omega arith

  pub count_room : (next1 : List ℕ) → Cleared next next1 (bin_count p.rows p.transitions) → FileRoom text levels spots ids names ranks work next1 (plan_with p Count)
  count_room next1 c =
      let s = c.size in let b = count_clear in let l = r.work_room in
      record {
        short = plan_short text ids names ranks p.rows p.transitions p.ids p.slots r.planned;
        deep = r.deep;
        spots_room = r.spots_room;
        named = plan_named text ids names ranks p.rows p.transitions p.ids p.slots r.planned (plan_with p Count) refl refl refl refl;
        bins = omega arith;
        few = omega arith;
        counting = λ e k h. c.zeros k h;
        filling = λ e. absurd (let z : ◌≡◌ {A = ℕ} 0 1 = cc in omega arith);
      }

  module _ (levels' spots' work' next2 : List ℕ) (f : FiledAll text levels' spots' ranks work' next2 (plan_with p Count)) where
    tally : Tallied p.rows p.transitions next2 (text_items text ranks p.rows p.transitions)
    tally = f.tallied refl

    pub count_totals : TotalsRoom next2 p.rows p.transitions
    count_totals = record { few = few text ids names ranks p.rows p.transitions p.ids p.slots r.planned; there = tally.room }

    pub count_many : (within : Bool) → within ≡ is_within (counts_in next2) p.rows p.transitions → not within ≡ true → CountedAs text ranks next2 p (Err Many)
    count_many within e q =
        record {
          is = (
            refl,
            record {
              well = r.planned.well;
              is =
                  over_size (slots_of (tags_of text)) p.rows p.transitions (counts_in next2) (text_items text ranks p.rows p.transitions) (content_of (tags_of text)) (λ k h. sym (tally.count k h))
                  (held text ids names ranks p.rows p.transitions p.ids p.slots r.planned) (sym e ∙ not-true within q);
            },
          );
        }

    -- the counts fit, whatever rule 1 says of them
    same : (m : ℕ) → m ≤ bin_count p.rows p.transitions → start_of (counts_in next2) m ≡ start_of (counts_of (text_items text ranks p.rows p.transitions)) m
    same m l = starts_same (counts_in next2) (counts_of (text_items text ranks p.rows p.transitions)) m (λ k h. tally.count k (omega arith))

    size_fits : lay_base p.rows p.transitions + start_of (counts_in next2) (bin_count p.rows p.transitions) ≤ 27756
    size_fits =
        let w = r.planned in
        let a = same (bin_count p.rows p.transitions) (omega arith) in
        let b =
        tables_few text ranks p.rows p.transitions (plan_short text ids names ranks p.rows p.transitions p.ids p.slots w) w.numbered.rows_few
        (rows_are text ids names ranks p.rows p.transitions p.ids p.slots w) w.numbered.ranked.many in
        omega arith

    pub count_starts : (base : ℕ) → base ≡ lay_base p.rows p.transitions → StartRoom next2 (bin_count p.rows p.transitions) base
    count_starts base b = let s = size_fits in record { there = tally.room; fits = omega arith }

    pub count_begun : (base : ℕ) → base ≡ lay_base p.rows p.transitions → (next3 : List ℕ) (end s : ℕ) → Started next2 next3 (bin_count p.rows p.transitions) base end → s ≡ end →
        CountedAs text ranks next3 p (Ok s)
    count_begun base b next3 end s g i =
        record {
          is =
              record {
                starts_are = λ k h. g.starts_are k h ∙ ap₂ (λ (y x : ℕ). y + x) b (same k (omega arith));
                total = i ∙ g.total ∙ ap₂ (λ (y x : ℕ). y + x) b (same (bin_count p.rows p.transitions) (omega arith));
                fits = let u = size_fits in let v = g.total in omega arith;
              };
        }
