-- Names join the internal queue, one by one.
use Rattle.std.specs.Prelude.{◌≡◌, true, ◌&&◌, ℕ, zero, suc, ◌+◌, ◌*◌, ◌/◌, ◌%◌, ◌≤◌, ◌<◌, ltb, length, get_or, take, drop}
use Rattle.std.proofs.Math.Path.{refl, ap}
use Rattle.std.proofs.Common.{sym, ◌∙◌, add-one, arith, length-append, take-append-drop, take-suc, take_all}
use mathlib.Core.List.{List, [], ◌∷◌, ◌++◌, map, map-append, append-nil, append_assoc}
use borrow.Author.Tests.{ltb-true}
use Rattle.definition.specs.Rows.{all, flat}
use Rattle.definition.specs.Names.{Name, done_name, before_zero}
use Rattle.definition.specs.Chart.{Chart, Names}
use Rattle.definition.specs.Tables.{row_count, name_count, id_at, name_at, chart_of, slot_of}
use Rattle.follower.specs.Blocks.{queued}
use Rattle.laws.specs.Bools.{and_left, and_right}
use Rattle.laws.specs.Lists.{flat_app}
use Rattle.tables.specs.Parts.{IdOf, SlotOf}
use Rattle.queue.specs.Queues.{queue_bytes, queue_of, queue_last, queue_length, names_length}
use Rattle.effects.specs.Kinds.{effect_of}
use Rattle.events.specs.Rounds.{effect_at, queued_names, is_known, JoinsIn, Joins}

-- ---- no name, one name, those of two lists

pub joins_none : (more : List Name) (before : List ℕ) (count : ℕ) → more ≡ [] → Joins more before before count count
joins_none more before count z = rw z (record { bytes = λ names e q. e ∙ ap queue_bytes (sym (append-nil names)); number = omega arith })

pub joins_one : (more : List Name) (name : Name) (before after : List ℕ) (count : ℕ) → more ≡ name ∷ [] → count < 32 →
    after ≡ take (count * 64) before ++ (slot_of name ++ drop (count * 64 + 64) before) → Joins more before after count (count + 1)
joins_one more name before after count z l put = rw z (record { bytes = λ names e q. put ∙ queue_last before count names name e q l; number = refl })

joins_both : (xs ys : List Name) (before between after : List ℕ) (count n m : ℕ) → Joins xs before between count n → Joins ys between after n m → Joins (xs ++ ys) before after count m
joins_both xs ys before between after count n m h k =
    let a = h.number in
    let b = k.number in
    record {
      bytes = λ names e q. k.bytes (names ++ xs) (h.bytes names e q) (let s = length-append names xs in omega arith) ∙ ap queue_bytes (append_assoc names xs ys);
      number = let s = length-append xs ys in omega arith;
    }

-- ---- one join, by its kind

kind_none : (c : Chart) (names : Names) (k i : ℕ) → (k ≡ 5 → ⊥) → (k ≡ 6 → ⊥) → queued c names (effect_of k i) ≡ []
unfolding queued
kind_none c names zero i a b = refl
kind_none c names (suc zero) i a b = refl
kind_none c names (suc (suc zero)) i a b = refl
kind_none c names (suc (suc (suc zero))) i a b = refl
kind_none c names (suc (suc (suc (suc zero)))) i a b = refl
kind_none c names (suc (suc (suc (suc (suc zero))))) i a b = absurd (a refl)
kind_none c names (suc (suc (suc (suc (suc (suc zero)))))) i a b = absurd (b refl)
kind_none c names (suc (suc (suc (suc (suc (suc (suc zero))))))) i a b = refl
kind_none c names (suc (suc (suc (suc (suc (suc (suc (suc k)))))))) i a b = refl

module _ (c : Chart) (names : Names) (join : ℕ) where
  pub queued_none : (join / 65536 ≡ 5 → ⊥) → (join / 65536 ≡ 6 → ⊥) → queued c names (effect_at join) ≡ []
  unfolding effect_at
  queued_none a b = kind_none c names (join / 65536) (join % 65536) a b

  pub queued_raised : join / 65536 ≡ 5 → queued c names (effect_at join) ≡ names (join % 65536) ∷ []
  unfolding effect_at queued
  queued_raised e = rw e

  pub queued_done : join / 65536 ≡ 6 → queued c names (effect_at join) ≡ done_name (names (c.row (join % 65536)).id) ∷ []
  unfolding effect_at queued
  queued_done e = rw e

module _ (chart : List ℕ) (join : ℕ) (h : is_known chart (effect_at join) ≡ true) where
  pub known_raised : join / 65536 ≡ 5 → join % 65536 < name_count chart
  unfolding effect_at is_known
  known_raised e = ltb-true _ _ (rw e at h)

  known_done : join / 65536 ≡ 6 → (ltb (join % 65536) (row_count chart) && ltb (id_at chart (join % 65536)) (name_count chart)) ≡ true
  unfolding effect_at is_known
  known_done e = rw e at h

  pub known_row : join / 65536 ≡ 6 → join % 65536 < row_count chart
  known_row l = ltb-true _ _ (and_left (ltb (join % 65536) (row_count chart)) _ (known_done l))

  pub known_id : join / 65536 ≡ 6 → id_at chart (join % 65536) < name_count chart
  known_id l = ltb-true _ _ (and_right (ltb (join % 65536) (row_count chart)) _ (known_done l))

-- one name joins: there is a slot for it, and what was put there is the queue with it
module _ (chart names : List ℕ) (join count : ℕ) (room : count + length (queued (chart_of chart) (name_at names) (effect_at join)) ≤ 32) where
  one_low : (name : Name) → queued (chart_of chart) (name_at names) (effect_at join) ≡ name ∷ [] → count < 32
  one_low name e = let l = ap {B = ℕ} length e in omega arith

  pub raised_low : join / 65536 ≡ 5 → count < 32
  raised_low k = one_low _ (queued_raised (chart_of chart) (name_at names) join k)

  pub done_low : join / 65536 ≡ 6 → count < 32
  done_low k = one_low _ (queued_done (chart_of chart) (name_at names) join k)

  pub raised_joins : join / 65536 ≡ 5 → (before after slot name : List ℕ) → SlotOf names (join % 65536) slot → name ≡ before_zero slot →
      after ≡ take (count * 64) before ++ (slot_of name ++ drop (count * 64 + 64) before) → Joins (queued (chart_of chart) (name_at names) (effect_at join)) before after count (count + 1)
  unfolding name_at
  raised_joins k before after slot name s e put =
      joins_one _ name before after count (queued_raised (chart_of chart) (name_at names) join k ∙ rw (e, s.is)) (raised_low k) put

  pub done_joins : join / 65536 ≡ 6 → (n : ℕ) (before after slot name : List ℕ) → IdOf chart (join % 65536) n → SlotOf names n slot → name ≡ before_zero slot →
      after ≡ take (count * 64) before ++ (slot_of (done_name name) ++ drop (count * 64 + 64) before) → Joins (queued (chart_of chart) (name_at names) (effect_at join)) before after count (count + 1)
  unfolding name_at
  done_joins k n before after slot name i s e put =
      joins_one _ (done_name name) before after count (queued_done (chart_of chart) (name_at names) join k ∙ rw (e, s.is, i.is)) (done_low k) put

-- ---- join by join

module _ (c : Chart) (names : Names) where
  queued_app : (xs ys : List ℕ) → queued_names c names (xs ++ ys) ≡ queued_names c names xs ++ queued_names c names ys
  unfolding queued_names
  queued_app xs ys = ap (flat (queued c names)) (map-append effect_at xs ys) ∙ flat_app (queued c names) (map effect_at xs) (map effect_at ys)

  queued_one : (join : ℕ) → queued_names c names (join ∷ []) ≡ queued c names (effect_at join)
  unfolding queued_names flat
  queued_one join = append-nil (queued c names (effect_at join))

  queued_more : (joins : List ℕ) (i : ℕ) → i < length joins →
      queued_names c names (take (i + 1) joins) ≡ queued_names c names (take i joins) ++ queued c names (effect_at (get_or joins i 0))
  queued_more joins i l =
      rw (add-one i, take-suc joins i 0 l)
      (queued_app (take i joins) (get_or joins i 0 ∷ []) ∙ ap (λ (xs : List Name). queued_names c names (take i joins) ++ xs) (queued_one (get_or joins i 0)))

-- the first i joins have queued their names
pub record Queueing (c : Chart) (names : Names) (joins before now : List ℕ) (count n i : ℕ) : Type 0 where
  pub most : i ≤ length joins
  pub joined : Joins (queued_names c names (take i joins)) before now count n

module _ (c : Chart) (names : Names) (joins before : List ℕ) (count : ℕ) where
  pub queueing_begin : Queueing c names joins before before count count 0
  unfolding queued_names flat
  queueing_begin = record { most = omega arith; joined = joins_none [] before count refl }

  module _ (now : List ℕ) (n i : ℕ) (h : Queueing c names joins before now count n i) where
    pub queueing_turn : (after : List ℕ) (m : ℕ) → i < length joins → Joins (queued c names (effect_at (get_or joins i 0))) now after n m → Queueing c names joins before after count m (i + 1)
    queueing_turn after m l k = record {
      most = omega arith;
      joined = rw (queued_more c names joins i l) (joins_both _ _ before now after count n m h.joined k);
    }

    -- there is room for the next
    pub queueing_room : i < length joins → count + length (queued_names c names joins) ≤ 32 → n + length (queued c names (effect_at (get_or joins i 0))) ≤ 32
    queueing_room l r =
        let a = h.joined.number in
        let b = ap {B = ℕ} length (queued_more c names joins i l) ∙ length-append (queued_names c names (take i joins)) (queued c names (effect_at (get_or joins i 0))) in
        let d = ap {B = ℕ} (λ (xs : List ℕ). length (queued_names c names xs)) (take-append-drop (i + 1) joins) in
        let e = ap {B = ℕ} length (queued_app c names (take (i + 1) joins) (drop (i + 1) joins)) ∙ length-append (queued_names c names (take (i + 1) joins)) (queued_names c names (drop (i + 1) joins)) in
        omega arith

    module _ (holds : before ≡ queue_bytes (queue_of before count)) where
      pub queueing_size : length now ≡ 2048
      queueing_size =
          ap length (h.joined.bytes (queue_of before count) holds (sym (names_length before count))) ∙ queue_length (queue_of before count ++ queued_names c names (take i joins))

      pub queueing_same : length now ≡ length before
      queueing_same = queueing_size ∙ sym (ap length holds ∙ queue_length (queue_of before count))

      pub queueing_end : length joins ≤ i → (now ≡ queue_bytes (queue_of before count ++ queued_names c names joins)) × (n ≡ count + length (queued_names c names joins))
      queueing_end l =
          let k : Joins (queued_names c names joins) before now count n = rw (take_all i joins l) at h.joined in
          (k.bytes (queue_of before count) holds (sym (names_length before count)), k.number)

pub known_at : (chart joins : List ℕ) (i : ℕ) → JoinsIn chart joins → i < length joins → is_known chart (effect_at (get_or joins i 0)) ≡ true
known_at chart joins i h l = go joins i h.known l
  where
    go : (xs : List ℕ) (i : ℕ) → all (is_known chart) (map effect_at xs) ≡ true → i < length xs → is_known chart (effect_at (get_or xs i 0)) ≡ true
    go [] i e l = absurd (omega arith)
    go (x ∷ xs) zero e l = unfold all in and_left (is_known chart (effect_at x)) _ e
    go (x ∷ xs) (suc i) e l = go xs i (unfold all in and_right (is_known chart (effect_at x)) _ e) (omega arith)
