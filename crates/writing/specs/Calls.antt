-- The call that writes a chart's text into a lent buffer (R-4): what it answers, and what the buffer then holds, for all tables and every buffer.
use Rattle.std.specs.Prelude.{◌&&◌, cond, List, ◌++◌, ℕ, zero, suc, leb, length, drop}
use Rattle.definition.specs.Rules.{keeps_rules}
use Rattle.definition.specs.Answers.{answer_no}
use Rattle.reading.specs.Layout.{content}
use Rattle.reading.specs.Print.{print}

-- the answer, the text's length, and the buffer behind the call
pub record Outcome : Type 0 where
  pub answer : ℕ
  pub length : ℕ
  pub buffer : List ℕ

-- "passes the reader's 32,768 bytes" (4.7)
abbrev pub longest : ℕ
longest = 32768

-- the text of the chart that the tables mean
unfoldable pub text_of : List ℕ → List ℕ → List ℕ
text_of numbers names = print (content numbers names)

-- "If the text does not fit the lent buffer, or passes the reader's 32,768 bytes, the answer is new refusal 13 and the buffer is untouched" (4.7). Bytes behind the
-- text keep what they held. With 13 comes the length of a buffer that the text would fit, where there is one.
unfoldable pub outcome : List ℕ → List ℕ → Outcome
outcome text buffer =
    cond (leb (length text) longest && leb (length text) (length buffer))
    (record { answer = 0; length = length text; buffer = text ++ drop (length text) buffer })
    (record { answer = 13; length = cond (leb (length text) longest) (length text) 0; buffer = buffer })

-- "a refused chart still gets 1 to 5 first" (4.8), and leaves "lent memory untouched" (76)
abbrev pub judged : ℕ → List ℕ → List ℕ → Outcome
judged zero text buffer = outcome text buffer
judged (suc n) text buffer = record { answer = suc n; length = 0; buffer = buffer }

unfoldable pub call_of : List ℕ → List ℕ → List ℕ → Outcome
call_of numbers names buffer = judged (answer_no (keeps_rules numbers names)) (text_of numbers names) buffer
