-- What is worked out of a chart once, for all rounds of a run.
use Rattle.std.specs.Prelude.{◌≡◌, Bool, List, ◌++◌, ℕ, ltb, length, get_or, take, drop}
use Rattle.std.proofs.Common.{sym, ap, subst, ◌∙◌, append_assoc, arith, length-append, length-drop, take_at, drop_at, get_or-drop, drop-drop}
use Rattle.definition.specs.Chart.{Chart}
use Rattle.definition.specs.Tables.{chart_of}
use Rattle.rowset.specs.declared.RowSet.{RowSet}
use Rattle.rowset.specs.Member.{rows_of}
use Rattle.chart.specs.Ready.{CompiledWith}
use Rattle.matching.specs.Chosen.{atomic_rows}
use Rattle.matching.specs.Eventless.{eventless_rows}
use Rattle.matching.specs.Sources.{Indexed}
use Rattle.matching.specs.Ready.{Prepared}
use Rattle.selection.specs.FixedDomains.{DomainsFixed}
use Rattle.matching.specs.Histories.{history_rows}
use Rattle.lookup.specs.Words.{rows_in, rows_behind, put, put_behind}

-- 257 starts, then 512 domains, then the rows by kind
abbrev pub starts_in : List ℕ → List ℕ
starts_in index = take 257 index

abbrev pub domains_in : List ℕ → List ℕ
domains_in index = take 512 (drop 257 index)

abbrev pub atomic_in : List ℕ → RowSet
atomic_in index = rows_in index 769

abbrev pub eventless_in : List ℕ → RowSet
eventless_in index = rows_in index 785

abbrev pub histories_in : List ℕ → RowSet
histories_in index = rows_in index 801

-- whether the rounds of a run are not to be shown (R-10)
abbrev pub quiet_in : List ℕ → Bool
quiet_in index = ltb 0 (get_or index 817 0)

pub record IndexOf (c : Chart) (index : List ℕ) : Type 0 where
  pub size : length index ≡ 818
  pub starts : Indexed c (starts_in index)
  pub domains : DomainsFixed c (domains_in index)
  pub atomic : rows_of (atomic_in index) ≡ atomic_rows c
  pub eventless : rows_of (eventless_in index) ≡ eventless_rows c
  pub histories : rows_of (histories_in index) ≡ history_rows c

-- all of it, of a chart that is compiled with its names
pub record Lookup (chart names index : List ℕ) : Type 0 where
  pub compiled : CompiledWith chart names
  pub indexed : IndexOf (chart_of chart) index

pub prepared : (chart names index : List ℕ) → Lookup chart names index → Prepared chart names (starts_in index) (atomic_in index)
prepared chart names index h = record { compiled = h.compiled; indexed = h.indexed.starts; atomic = h.indexed.atomic }

-- ---- the parts put in, one behind the other

module _ (c : Chart) (starts domains a e h index : List ℕ) (size : length index ≡ 818) (s : Indexed c starts) (d : DomainsFixed c domains)
    (atomic eventless histories : RowSet) (p : (length a ≡ 16) × (rows_in a 0 ≡ atomic)) (q : (length e ≡ 16) × (rows_in e 0 ≡ eventless)) (r : (length h ≡ 16) × (rows_in h 0 ≡ histories)) where
  abbrev back : List ℕ
  back = drop 257 index

  abbrev front : List ℕ
  front = starts ++ domains

  abbrev whole : List ℕ
  whole = put (put (put (put (starts ++ back) 257 512 domains) 769 16 a) 785 16 e) 801 16 h

  abbrev last : List ℕ
  last = drop 16 (drop 16 (drop 16 (drop 512 back)))

  front_length : length front ≡ 769
  front_length = let x = s.size in let y = d.size in rw length-append (omega arith)

  atomic_length : length (front ++ a) ≡ 785
  atomic_length = let x = front_length in let y = p.0 in omega (arith, length-append front a)

  eventless_length : length (front ++ a ++ e) ≡ 801
  eventless_length = let x = atomic_length in let y = q.0 in omega (arith, length-append (front ++ a) e)

  whole_is : whole ≡ front ++ a ++ e ++ h ++ last
  whole_is =
      rw (
        put_behind starts back domains 257 512 s.size,
        put_behind front (drop 512 back) a 769 16 front_length,
        put_behind (front ++ a) (drop 16 (drop 512 back)) e 785 16 atomic_length,
      ) (put_behind (front ++ a ++ e) (drop 16 (drop 16 (drop 512 back))) h 801 16 eventless_length)

  histories_at : whole ≡ front ++ a ++ e ++ (h ++ last)
  histories_at = whole_is ∙ append_assoc (front ++ a ++ e) h last

  eventless_at_lem : whole ≡ front ++ a ++ (e ++ (h ++ last))
  eventless_at_lem = histories_at ∙ append_assoc (front ++ a) e (h ++ last)

  atomic_at : whole ≡ front ++ (a ++ (e ++ (h ++ last)))
  atomic_at = eventless_at_lem ∙ append_assoc front a (e ++ (h ++ last))

  domains_at : whole ≡ starts ++ (domains ++ (a ++ (e ++ (h ++ last))))
  domains_at = atomic_at ∙ append_assoc starts domains (a ++ (e ++ (h ++ last)))

  whole_length : length whole ≡ 818
  whole_length =
      let x = eventless_length in
      let y = r.0 in
      ap {B = ℕ} length whole_is ∙ rw (length-append (front ++ a ++ e ++ h) last, length-append (front ++ a ++ e) h, length-drop, length-drop, length-drop, length-drop, length-drop) (omega arith)

  starts_back : starts_in whole ≡ starts
  starts_back = ap (take 257) domains_at ∙ take_at starts _ 257 s.size

  domains_back : domains_in whole ≡ domains
  domains_back = ap (λ (xs : List ℕ). take 512 (drop 257 xs)) domains_at ∙ ap (take 512) (drop_at starts _ 257 s.size) ∙ take_at domains _ 512 d.size

  atomic_back : atomic_in whole ≡ rows_in a 0
  atomic_back = rows_behind whole a _ 769 (ap (drop 769) atomic_at ∙ drop_at front _ 769 front_length) p.0

  eventless_back : eventless_in whole ≡ rows_in e 0
  eventless_back = rows_behind whole e _ 785 (ap (drop 785) eventless_at_lem ∙ drop_at (front ++ a) _ 785 atomic_length) q.0

  histories_back : histories_in whole ≡ rows_in h 0
  histories_back = rows_behind whole h _ 801 (ap (drop 801) histories_at ∙ drop_at (front ++ a ++ e) _ 801 eventless_length) r.0

  histories_length : length (front ++ a ++ e ++ h) ≡ 817
  histories_length = let x = eventless_length in let y = r.0 in omega (arith, length-append (front ++ a ++ e) h)

  last_is : last ≡ drop 817 index
  last_is = rw (drop-drop 16 16 (drop 16 (drop 512 back)), drop-drop 32 16 (drop 512 back), drop-drop 48 512 back, drop-drop 560 257 index)

  quiet_stays : quiet_in whole ≡ quiet_in index
  quiet_stays =
      ap (ltb 0)
      (sym (get_or-drop 817 whole 0 0) ∙ ap (λ (xs : List ℕ). get_or xs 0 0) (ap (drop 817) whole_is ∙ drop_at (front ++ a ++ e ++ h) last 817 histories_length ∙ last_is) ∙ get_or-drop 817 index 0 0)

  pub index_put : rows_of atomic ≡ atomic_rows c → rows_of eventless ≡ eventless_rows c → rows_of histories ≡ history_rows c → IndexOf c whole × (quiet_in whole ≡ quiet_in index)
  index_put x y z = (
    record {
      size = whole_length;
      starts = subst (Indexed c) (sym starts_back) s;
      domains = subst (DomainsFixed c) (sym domains_back) d;
      atomic = ap rows_of (atomic_back ∙ p.1) ∙ x;
      eventless = ap rows_of (eventless_back ∙ q.1) ∙ y;
      histories = ap rows_of (histories_back ∙ r.1) ∙ z;
    },
    quiet_stays,
  )
