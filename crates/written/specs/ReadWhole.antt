-- "Reading what was written gives an equal chart" (R-4, 4.3), "writing twice changes nothing" (4.4): the reader's answer to what was written of an accepted chart.
use Rattle.std.specs.Prelude.{◌≡◌, Bool, true, cond, List, ℕ, ◌≤◌, length}
use Rattle.std.proofs.Math.Path.{refl}
use Rattle.std.proofs.Common.{ap, ap₂, ◌∙◌}
use Rattle.std.proofs.Math.Option.{Option}
use Rattle.definition.specs.declared.Answer.{Answer}
use Rattle.definition.specs.declared.Answer.TheVariants.{Done}
use Rattle.definition.specs.Answers.{answer_no}
use Rattle.definition.specs.Tables.{chart_of}
use Rattle.definition.specs.Rules.{compiled_size, rule1, rule2, rule3, rule4, rule5, first_broken, verdict, keeps_rules}
use Rattle.grammar.specs.Grammar.{in_grammar, grammar_fault}
use Rattle.reading.specs.Tags.{tags_of}
use Rattle.reading.specs.Faults.{first_fault}
use Rattle.reading.specs.Content.{Content, content_of, slots_of}
use Rattle.reading.specs.Layout.{numbers_of, names_of, faulty, tables, judged, meaning, searched, read_of, content}
use Rattle.reading.specs.Print.{print}
use Rattle.accepted.specs.Sound.{accepted_sound}
use Rattle.written.specs.Accepted.{text_read, text_content}
use Rattle.written.specs.ReadBack.{slots_are_lem, tables_back}
use Rattle.written.specs.ByContent.{rule_3_alike, rule_4_alike, rule_5_alike}
use Rattle.written.specs.ReadRule2.{new_numbers, new_names, read_rule2}
use Rattle.written.specs.ReadSizes.{read_rule1}

all_kept : (a b c d e : Bool) → a ≡ true → b ≡ true → c ≡ true → d ≡ true → e ≡ true → first_broken a b c d e ≡ Done
unfolding first_broken
all_kept a b c d e p q r s t = rw (p, q, r, s, t)

module _ (numbers names : List ℕ) (h : keeps_rules numbers names ≡ Done) where
  abbrev laid : List ℕ
  laid = new_numbers numbers names h

  abbrev laid_names : List ℕ
  laid_names = new_names numbers names h

  abbrev chart : Content
  chart = content numbers names

  -- the tables that are read keep all rules
  pub laid_accepted : keeps_rules laid laid_names ≡ Done
  unfolding keeps_rules verdict
  laid_accepted =
      let s = accepted_sound numbers names h in
      let q = tables_back numbers names h in
      all_kept (rule1 laid laid_names (compiled_size laid) (length laid_names)) (rule2 laid laid_names) (rule3 (chart_of laid)) (rule4 (chart_of laid)) (rule5 (chart_of laid)) (read_rule1 numbers names h) (read_rule2 numbers names h)
      (rule_3_alike laid laid_names numbers names q ∙ s.tree.rule) (rule_4_alike laid laid_names numbers names q ∙ s.list_rule) (rule_5_alike laid laid_names numbers names q ∙ s.transition_rule)

  -- the reader answers with them
  pub read_tables : length (print chart) ≤ 32768 → read_of (print chart) ≡ tables laid laid_names
  read_tables l =
      shown ∙ ap₂ (λ (z : Bool) (o : Option ℕ). cond z (searched o (tags_of (print chart))) (faulty (grammar_fault (print chart)))) (text_read numbers names h l).0 (text_read numbers names h l).1 ∙ meant ∙
      ap₂ (λ (x : List (List ℕ)) (y : Content). judged (answer_no (keeps_rules (numbers_of x y) (names_of x))) (numbers_of x y) (names_of x)) (slots_are_lem numbers names h) (text_content numbers names h) ∙
      ap (λ (a : Answer). judged (answer_no a) laid laid_names) laid_accepted ∙ done
    where
      shown : read_of (print chart) ≡ cond (in_grammar (print chart)) (searched (first_fault (tags_of (print chart))) (tags_of (print chart))) (faulty (grammar_fault (print chart)))
      shown = unfold read_of in refl

      meant : meaning (tags_of (print chart)) ≡
          judged (answer_no (keeps_rules (numbers_of (slots_of (tags_of (print chart))) (content_of (tags_of (print chart)))) (names_of (slots_of (tags_of (print chart))))))
          (numbers_of (slots_of (tags_of (print chart))) (content_of (tags_of (print chart)))) (names_of (slots_of (tags_of (print chart))))
      meant = unfold meaning in refl

      done : judged (answer_no Done) laid laid_names ≡ tables laid laid_names
      done = unfold answer_no in refl

  -- and they mean the chart that was written: "an equal chart"
  pub laid_equal : content laid laid_names ≡ chart
  laid_equal = tables_back numbers names h

  -- "writing twice changes nothing"
  pub laid_printed : print (content laid laid_names) ≡ print chart
  laid_printed = ap print laid_equal

-- "Reading what was written gives an equal chart": for every accepted chart whose text has at most 32,768 bytes the reader gives tables, and these are of the
-- same content; they are accepted too, and are written alike
pub record ReadsBack (numbers names : List ℕ) : Type 0 where
  pub others : List ℕ
  pub other_names : List ℕ
  pub read : read_of (print (content numbers names)) ≡ tables others other_names
  pub accepted : keeps_rules others other_names ≡ Done
  pub equal : content others other_names ≡ content numbers names
  pub again : print (content others other_names) ≡ print (content numbers names)

pub reads_back : (numbers names : List ℕ) → keeps_rules numbers names ≡ Done → length (print (content numbers names)) ≤ 32768 → ReadsBack numbers names
reads_back numbers names h l =
    record {
      others = new_numbers numbers names h;
      other_names = new_names numbers names h;
      read = read_tables numbers names h l;
      accepted = laid_accepted numbers names h;
      equal = laid_equal numbers names h;
      again = laid_printed numbers names h;
    }
