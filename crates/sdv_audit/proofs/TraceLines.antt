-- Each line that is printed is the text of a line that is read.
use Rattle.std.proofs.Common.{◌≡◌, ℕ, List, ◌++◌, length, decimal, refl, sym, ap, ◌∙◌, append_assoc}
use Rattle.std.specs.Prelude.{codes}
use Rattle.sdv_card.specs.declared.answer.DataEnd.{DataEnd}
use Rattle.sdv_card.specs.declared.answer.WaitEnd.TheVariants.{Ok as Over, Late}
use Rattle.sdv_card.specs.Port.{command_of}
use Rattle.sdv_card.specs.ScriptEvent.{SendCommand, ReceiveBlocks, ReceiveRegister, GiveBlocks, AwaitReady, Answered, BlocksIn, RegisterIn, BlocksOut, Waited}
use Rattle.sdv_trace.specs.Trace.{line_feed, phase_line, command_text, answer_text, end_text}
use Rattle.sdv_audit.specs.declared.line.TraceLine.TheVariants.{Exchange, BlocksIn as InLine, RegisterIn as RegisterLine, BlocksOut as OutLine, Wait}
use Rattle.sdv_audit.specs.Spelling.{phase_text}
use Rattle.sdv_audit.specs.PrintedLines.{PrintedLinesAreRead}
use Rattle.sdv_audit.proofs.EndLaws.{lines_are_said}
use Rattle.sdv_audit.proofs.Printed.{lines_are_read}

phase_printed : (word : List ℕ) (count : ℕ) (end : DataEnd) → phase_line word count end ≡ phase_text word count end ++ line_feed
phase_printed word count end =
    sym (append_assoc word (codes " " ++ (decimal count ++ end_text end)) line_feed
    ∙ ap (λ l. word ++ (codes " " ++ l)) (append_assoc (decimal count) (end_text end) line_feed))

pub printed_lines_are_read : PrintedLinesAreRead
printed_lines_are_read (SendCommand ask position argument) (Answered answer) is = record {
  line = Exchange (command_of ask argument) answer;
  printed = sym (append_assoc (command_text (command_of ask argument)) (answer_text answer) line_feed);
  read = lines_are_read (Exchange (command_of ask argument) answer) is;
  said = lines_are_said (Exchange (command_of ask argument) answer) is;
  told = (refl, refl);
}
printed_lines_are_read (ReceiveBlocks lines count) (BlocksIn end blocks) is = record {
  line = InLine count end;
  printed = phase_printed (codes "IN") count end;
  read = lines_are_read (InLine count end) is;
  said = lines_are_said (InLine count end) is;
  told = (refl, refl);
}
printed_lines_are_read (ReceiveRegister lines count) (RegisterIn end bytes) is = record {
  line = RegisterLine count end;
  printed = phase_printed (codes "REG") count end;
  read = lines_are_read (RegisterLine count end) is;
  said = lines_are_said (RegisterLine count end) is;
  told = (refl, refl);
}
printed_lines_are_read (GiveBlocks lines blocks) (BlocksOut end) is = record {
  line = OutLine (length blocks) end;
  printed = phase_printed (codes "OUT") (length blocks) end;
  read = lines_are_read (OutLine (length blocks) end) is;
  said = lines_are_said (OutLine (length blocks) end) is;
  told = (refl, refl);
}
printed_lines_are_read AwaitReady (Waited Over) is =
    record {
      line = Wait Over;
      printed = refl;
      read = lines_are_read (Wait Over) tt;
      said = lines_are_said (Wait Over) tt;
      told = refl;
    }
printed_lines_are_read AwaitReady (Waited Late) is =
    record {
      line = Wait Late;
      printed = refl;
      read = lines_are_read (Wait Late) tt;
      said = lines_are_said (Wait Late) tt;
      told = refl;
    }
printed_lines_are_read event returned is = absurd is
