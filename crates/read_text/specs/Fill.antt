-- The tables of a text laid in a work place, once its lists and blocks are counted.
use Rattle.std.specs.declared.result.Result.{Result}
use Rattle.std.specs.declared.result.Result.TheVariants.{Ok, Err}
use Rattle.std.specs.Prelude.{◌≡◌, refl, List, ℕ, ◌+◌, ◌*◌, ◌-◌, ◌≤◌, ◌<◌, length, take, drop}
use Rattle.std.proofs.Common.{sym, ◌∙◌, arith, add-zero, get_or-drop}
use Rattle.std.proofs.Math.Path.{ap, subst}
use Rattle.std.proofs.Math.ListN.{get_or}
use Rattle.definition.specs.Rows.{flat, from}
use Rattle.reading.specs.Tags.{tags_of}
use Rattle.reading.specs.Faults.{ids_of}
use Rattle.reading.specs.Content.{Content, content_from, content_of, slots_of}
use Rattle.bins.specs.Bins.{start_of}
use Rattle.bins.specs.Binned.{Item, values_of, Binned, binned_start}
use Rattle.items.specs.Items.{bin_count, sources_of, order_of, Ranked}
use Rattle.items.specs.Order.{no_transition, transition_at, rows_count, sources_length, transition_here}
use Rattle.items.specs.Ranks.{number_in, rank_of}
use Rattle.items.specs.Picked.{no_row}
use Rattle.items.specs.Owners.{facts_owned}
use Rattle.items.specs.Whole.{bins_are}
use Rattle.walks.specs.declared.plan.Plan.{Plan}
use Rattle.walks.specs.Plan.{text_facts, text_items, counts_of, lay_base, FileRoom, FiledAll, HeadRoom, TransitionHead, HeadsLaid}
use Rattle.cells.specs.Parts.{CellsRoom}
use Rattle.cells.specs.Cells.{RowSaid, TransitionSaid}
use Rattle.cells.specs.Header.{CellsLaid}
use Rattle.cells.specs.Tables.{behind_cells, Filled, filled_room, tables_are, tables_long}
use Rattle.read_text.specs.declared.refused.Refusal.{Refusal}
use Rattle.read_text.specs.declared.refused.Refusal.TheVariants.{Many}
use Rattle.read_text.specs.Hand.{tables_of}
use Rattle.read_text.specs.Survey.{Oversize}
use Rattle.read_text.specs.Count.{FillRoom, BegunBins, CountedAs, few, rows_are, held, plan_named, plan_short, names_long, plan_with, count_clear}
use Rattle.walks.specs.declared.plan.Pass.TheVariants.{Fill}

pub record FillReady (text levels spots ids names ranks work next : List ℕ) (p : Plan) : Type 0 where
  pub room : FillRoom text levels spots ids names ranks work next p
  pub size : ℕ
  pub begun : BegunBins text ranks next p size

-- the tables stand at the beginning of the work place
pub record TablesIn (text work : List ℕ) (s : ℕ) : Type 0 where
  pub size_is : s ≡ length (tables_of text)
  pub there : s ≤ length work
  pub tables_are : take s work ≡ tables_of text

pub record FilledAs (text ranks work : List ℕ) (p : Plan) : Type 0 where
  pub is : TablesIn text work (lay_base p.rows p.transitions + start_of (counts_of (text_items text ranks p.rows p.transitions)) (bin_count p.rows p.transitions))

-- what stands behind a place, by what is behind it as a whole
behind_at : (at k : ℕ) (o o' : List ℕ) → drop at o' ≡ drop at o → at ≤ k → get_or o' k 0 ≡ get_or o k 0
behind_at at k o o' e h =
    let s : at + (k - at) ≡ k = omega arith in
    sym (ap (λ (j : ℕ). get_or o' j 0) s) ∙ sym (get_or-drop at o' (k - at) 0) ∙ ap (λ (l : List ℕ). get_or l (k - at) 0) e ∙ get_or-drop at o (k - at) 0 ∙ ap (λ (j : ℕ). get_or o j 0) s

module _ (text levels spots ids names ranks work next : List ℕ) (p : Plan) (r : FillReady text levels spots ids names ranks work next p) where
  abbrev n : ℕ
  n = p.rows

  abbrev t : ℕ
  t = p.transitions

  abbrev items : List Item
  items = text_items text ranks n t

  abbrev content : Content
  content = content_of (tags_of text)

  pub fill_file : FileRoom text levels spots ids names ranks work next (plan_with p Fill)
  fill_file =
      let b = count_clear text levels spots ids names ranks work next p r.room in let l = r.room.work_room in let f = r.begun.fits in let e = r.begun.total in
      record {
        short = plan_short text ids names ranks n t p.ids p.slots r.room.planned;
        deep = r.room.deep;
        spots_room = r.room.spots_room;
        named = plan_named text ids names ranks n t p.ids p.slots r.room.planned (plan_with p Fill) refl refl refl refl;
        bins = b;
        few = omega arith;
        counting = λ e. absurd (let z : ◌≡◌ {A = ℕ} 0 1 = cc in omega arith);
        filling = λ z. binned_start (bin_count n t) (lay_base n t) (counts_of items) work next (omega arith) b r.begun.starts_are;
      }

  module _ (levels1 spots1 work1 next1 : List ℕ) (f : FiledAll text levels1 spots1 ranks work1 next1 (plan_with p Fill)) (l1 : length work1 ≡ length work) where
    binned : Binned (bin_count n t) (lay_base n t) (counts_of items) work1 next1 items
    binned = f.binned refl

    pub fill_heads : HeadRoom text levels1 spots1 ids names ranks work1 (plan_with p Fill)
    fill_heads =
        let b = binned.room in
        record {
          short = plan_short text ids names ranks n t p.ids p.slots r.room.planned;
          deep = f.deep;
          spots_room = f.spots_room;
          named = plan_named text ids names ranks n t p.ids p.slots r.room.planned (plan_with p Fill) refl refl refl refl;
          ranked = r.room.planned.numbered.ranked;
          room = omega arith;
        }

    module _ (levels2 spots2 work2 : List ℕ) (g : HeadsLaid text levels2 spots2 ranks work1 work2 (plan_with p Fill)) (l2 : length work2 ≡ length work1) where
      binned' : Binned (bin_count n t) (lay_base n t) (counts_of items) work2 next1 items
      binned' =
          let b = binned.room in
          record {
            room = omega arith;
            bins = binned.bins;
            next_is = binned.next_is;
            few = binned.few;
            stand = λ k j h l. behind_at (lay_base n t) (lay_base n t + start_of (counts_of items) k + j) work1 work2 g.behind (omega arith) ∙ binned.stand k j h l;
          }

      rows_are' : n ≡ length (content_from (text_facts text)).rows
      rows_are' = rows_are text ids names ranks n t p.ids p.slots r.room.planned

      row_said : (i : ℕ) → i < n → RowSaid (slots_of (tags_of text)) work2 i (get_or content.rows i no_row)
      unfolding content_of content_from
      row_said i h =
          let c = rows_count (text_facts text) in let e = rows_are' in
          let w = g.rows_are i h (omega arith) in
          record { kind = ap (λ (k : ℕ). get_or work2 k 0) (add-zero (6 + i * 11)) ∙ w.kind_is; parent = w.parent_is; id = w.id_is }

      transition_said_lem : (k : ℕ) → k < t → TransitionSaid work2 n k (get_or content.transitions k no_transition)
      unfolding content_of
      transition_said_lem k h = subst (TransitionSaid work2 n k) (sym (transition_here (text_facts text) n rows_are' k (let m = ranked.many in omega arith))) by_number
        where
          ranked : Ranked n t (sources_of (text_facts text)) ranks
          ranked = r.room.planned.numbered.ranked

          q : ℕ
          q = get_or (order_of n (sources_of (text_facts text))) k 0

          is : get_or ranks q 0 ≡ k
          is = rank_of n t (sources_of (text_facts text)) ranks ranked k h

          head : TransitionHead text n k q work2
          head =
              let i = number_in n t (sources_of (text_facts text)) ranks ranked k h in let b = i.0 in let l = sources_length (text_facts text) in let e = is in
              subst (λ (j : ℕ). TransitionHead text n j q work2) is (g.transitions_are q (omega arith) (omega arith))

          by_number : TransitionSaid work2 n k (transition_at (text_facts text) q)
          by_number =
              let w = head in
              record { source = ap (λ (j : ℕ). get_or work2 j 0) (add-zero (6 + n * 11 + k * 9)) ∙ w.source_is; condition = w.condition_is; type = w.internal_is_lem }

      together : flat (values_of items) (from (bin_count n t) 0) ≡ behind_cells (slots_of (tags_of text)) content
      unfolding content_of
      together = bins_are (slots_of (tags_of text)) (text_facts text) n t ranks rows_are' r.room.planned.numbered.ranked (facts_owned (ids_of (tags_of text)) (tags_of text))

      filled : Filled (slots_of (tags_of text)) n t (counts_of items) work2 next1 items content
      filled =
          record {
            few = few text ids names ranks n t p.ids p.slots r.room.planned;
            binned = binned';
            full = λ k h. refl;
            held = held text ids names ranks n t p.ids p.slots r.room.planned;
            together = together;
            said = record { row = row_said; transition = transition_said_lem };
          }

      pub fill_cells : CellsRoom work2 next1 n t
      fill_cells = filled_room (slots_of (tags_of text)) n t (counts_of items) work2 next1 items content filled

      pub fill_done : (work3 : List ℕ) → CellsLaid work2 work3 next1 n t p.slots → FilledAs text ranks work3 p
      fill_done work3 c =
          let e = sym (names_long text ids names ranks n t p.ids p.slots r.room.planned) in
          let b = binned'.room in let s = c.size in
          record {
            is =
                record {
                  size_is = tables_long (slots_of (tags_of text)) n t (counts_of items) work2 next1 items content filled p.slots work3 c e;
                  there = omega arith;
                  tables_are = tables_are (slots_of (tags_of text)) n t (counts_of items) work2 next1 items content filled p.slots work3 c e;
                };
          }

-- ---- both

abbrev pub LaidCase : List ℕ → List ℕ → Result ℕ Refusal → Type 0
LaidCase text work (Err e) = (e ≡ Many) × Oversize text
LaidCase text work (Ok s) = TablesIn text work s

pub record LaidAs (text work : List ℕ) (r : Result ℕ Refusal) : Type 0 where
  pub is : LaidCase text work r

module _ (text ranks next1 : List ℕ) (p : Plan) (s : ℕ) (c : CountedAs text ranks next1 p (Ok s)) where
  pub laid_ready : (levels spots ids names work next levels1 spots1 work1 : List ℕ) → FillRoom text levels spots ids names ranks work next p →
      length levels1 ≡ length levels → length spots1 ≡ length spots → length work1 ≡ length work → length next1 ≡ length next → FillReady text levels1 spots1 ids names ranks work1 next1 p
  laid_ready levels spots ids names work next levels1 spots1 work1 r a b d f =
      record {
        room = record { deep = a ∙ r.deep; spots_room = b ∙ r.spots_room; work_room = d ∙ r.work_room; next_room = f ∙ r.next_room; planned = r.planned };
        size = s;
        begun = c.is;
      }

  pub laid_done : (work2 : List ℕ) → FilledAs text ranks work2 p → LaidAs text work2 (Ok s)
  laid_done work2 w = record { is = subst (TablesIn text work2) (sym c.is.total) w.is }
