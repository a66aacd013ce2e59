-- `card --describe CARD [SCHEDULE]`: what the card description of a file says is printed, or the line at which it is none; and
-- beside it whether the bytes of another file are a schedule.
use Rattle.std.specs.Prelude.{◌≡◌, ℕ, List, Option, option_map}
use Rattle.clap.specs.Words.{Text}
use Rattle.sdv_explain.specs.Schedules.{TellsGiven}
use Rattle.sdv_explain.specs.declared.describing.CardPage.{CardPage}
use Rattle.sdv_program.specs.declared.fault.Fault.{Fault}
use Rattle.sdv_program.specs.declared.fault.Fault.TheVariants.{Card}
use Rattle.sdv_program.specs.Files.{Files}
use Rattle.sdv_program.specs.Outcomes.{Ending, OverText, Reports}
use Rattle.sdv_commands.specs.Given.{OverGiven}

-- the text is that of the page of a description and of a schedule, which tells why there is no such card, or of a card
abbrev pub IsPageOf : (description : Text) → (schedule : Option (List ℕ)) → (told : Option Fault) → (text : Text) → Type 0
IsPageOf description schedule told text =
    (page : CardPage) × TellsGiven description schedule page × (told ≡ option_map Card page.fault) × (text ≡ page.words.items)

-- each description has a page
abbrev pub HasNoPage : Fault → Type 0
HasNoPage fault = ⊥

-- the file of the schedule is read only where that of the description gave a text
abbrev pub DescribesText : Files → (description : Text) → (schedule_file : Option Text) → Ending
DescribesText files description schedule_file =
    OverGiven files schedule_file (λ schedule. Reports (IsPageOf description schedule) HasNoPage)

abbrev pub DescribeEnds : Files → (card_file : Text) → (schedule_file : Option Text) → Ending
DescribeEnds files card_file schedule_file =
    OverText files card_file (λ description. DescribesText files description schedule_file)
