-- The last line of a trace whose run stopped before what is not allowed: the event as in any other line, without what it
-- would have returned, or `done`.
use Rattle.std.specs.Prelude.{◌/◌, ◌%◌, ◌==◌, ◌^◌, ℕ, List, ◌++◌, codes, decimal, if◌then◌else◌}
use Rattle.sdv_trace.specs.Trace.{line_feed, word_text}
use Rattle.sdv_refute.specs.declared.next.Next.{Next}
use Rattle.sdv_refute.specs.declared.next.Next.TheVariants.{Send, Receive, ReceiveRegister, Give, Wait, Done}

-- eight digits, or sixteen for an argument of more than 32 bits
abbrev pub argument_text : ℕ → List ℕ
argument_text argument =
    if argument / 2 ^ 32 == 0 then word_text (argument % 2 ^ 32)
    else word_text (argument / 2 ^ 32) ++ word_text (argument % 2 ^ 32)

abbrev pub count_text : (word : List ℕ) → ℕ → List ℕ
count_text word count = word ++ decimal count

-- what comes next, without the argument of a command
abbrev pub name_text : Next → List ℕ
name_text (Send ask position argument) = count_text (codes "CMD") ask.index
name_text (Receive count) = count_text (codes "IN ") count
name_text (ReceiveRegister count) = count_text (codes "REG ") count
name_text (Give count) = count_text (codes "OUT ") count
name_text Wait = codes "WAIT"
name_text Done = codes "done"

abbrev pub next_text : Next → List ℕ
next_text (Send ask position argument) =
    count_text (codes "CMD") ask.index ++ (codes " " ++ argument_text argument)
next_text next = name_text next

abbrev pub wrong_line : Next → List ℕ
wrong_line next = codes "wrong " ++ (next_text next ++ line_feed)
