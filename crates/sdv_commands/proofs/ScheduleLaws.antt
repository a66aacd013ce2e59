-- What a file of a schedule gives, and why it gives none.
use Rattle.std.proofs.Common.{◌≡◌, ◌∙◌, refl, inl, inr, Some, None, ℕ, List, Option, Result, Ok, Err, IfErr, IsErrAnd, option_map}
use Rattle.std.specs.Prelude.{◌≢◌}
use Rattle.std.specs.Borrow.{Bor}
use Rattle.std.specs.List.{AllByRecursion}
use Rattle.clap.specs.Words.{Text}
use Rattle.sdv_named_schedules.specs.declared.fault.ScheduleFault.{ScheduleFault}
use Rattle.sdv_named_schedules.specs.declared.fault.ScheduleFault.TheVariants as why
use Rattle.sdv_named_schedules.specs.declared.idle.Idle.{Idle}
use Rattle.sdv_program.specs.Requests.{TryNames}
use Rattle.sdv_program.specs.Fault.{fault_of_schedule}
use Rattle.sdv_program.specs.declared.fault.Fault.{Fault}
use Rattle.sdv_program.specs.declared.fault.Fault.TheVariants.{Memory}
use Rattle.sdv_program.specs.Files.{Files}
use Rattle.sdv_commands.specs.Run.{IsOptional, IsUnread, IsUsed, as_schedule, schedule_codes, some_use}
use Rattle.sdv_commands.specs.declared.schedules.Schedule.{Schedule}
use Rattle.sdv_commands.specs.declared.schedules.Schedule.TheVariants.{Values, Names}
use Rattle.sdv_commands.specs.Schedules.{AreValuesOf, GivesMishaps, GivesValues, HasValues, IsReadSo, IsUngiven, IsWrong, IsWrongFile}
use Rattle.sdv_commands.specs.Try.{IsUnreadFor, first_uses, uses_of}

-- THE FILE

module _ (files : Files) where
  -- it was used as that of a schedule of digits is
  pub schedule_used : (name : Option Text) (schedule : Schedule) → GivesMishaps files name schedule
      → AllByRecursion (IsUsed files) (some_use as_schedule name)
  schedule_used None schedule given = tt
  schedule_used (Some file) schedule given = ((schedule_codes given.0, (given.0, given.1, refl)), tt)

  module _ (file : Bor Text) (bytes : List ℕ) (gives : files.gives file.now bytes) where
    wrong_so : (fault : ScheduleFault) → (fault ≢ why.Memory → IsWrong bytes fault) → IsUngiven files (Some file) (fault_of_schedule fault)
    wrong_so why.Memory wrong = inl (inr refl)
    wrong_so (why.Event line) wrong =
        inr (why.Event line, refl, record { file = file.now; same = refl; bytes = bytes; gives = gives; wrong = wrong (λ same. absurd (cc same)) })
    wrong_so (why.Mishap line) wrong =
        inr (why.Mishap line, refl, record { file = file.now; same = refl; bytes = bytes; gives = gives; wrong = wrong (λ same. absurd (cc same)) })
    wrong_so why.Many wrong =
        inr (why.Many, refl, record { file = file.now; same = refl; bytes = bytes; gives = gives; wrong = wrong (λ same. absurd (cc same)) })

    pub ungiven : {T : Type 0} (fault : ScheduleFault) → (fault ≢ why.Memory → IsWrong bytes fault)
        → (r : Result T Fault) → IsErrAnd r (λ f. f ≡ fault_of_schedule fault) → IfErr r (IsUngiven files (Some file))
    ungiven fault wrong (Ok x) is = absurd is
    ungiven fault wrong (Err f) is = rw is (wrong_so fault wrong)

-- VALUES

values_so : (bytes codes : List ℕ) (idle : List Idle) (schedule : Schedule) → IsReadSo bytes schedule → HasValues schedule codes idle
    → AreValuesOf bytes codes idle
values_so bytes codes idle (Values values) read has = inl (read.0, has.0 ∙ read.1, has.1)
values_so bytes codes idle (Names mishaps) read has = inr (read.0, mishaps.items, read.1, has)

pub values_given : (files : Files) (name : Option Text) (schedule : Schedule) (codes : List ℕ) (idle : List Idle) → GivesMishaps files name schedule
    → HasValues schedule codes idle → GivesValues files name codes idle
values_given files None (Values values) codes idle given has = (has.0 ∙ given, has.1)
values_given files None (Names mishaps) codes idle given has = absurd given
values_given files (Some file) schedule codes idle given has = (given.0, given.1, values_so given.0 codes idle schedule given.2 has)

-- WHAT A FAULT SAYS of the files of a run

module _ (files : Files) (names : TryNames) where
  pub unread_for : {T : Type 0} (r : Result T Fault) → IfErr r (IsUnread files (uses_of names)) → IfErr r (IsUnreadFor files names)
  unread_for (Ok x) unread = tt
  unread_for (Err f) unread = inl unread

  pub schedule_unread : {T : Type 0} (name : Option (Bor Text)) → names.schedule ≡ option_map (λ file. file.now) name → (fault : Fault)
      → AllByRecursion (IsUsed files) (first_uses names) → IsUngiven files name fault → (r : Result T Fault) → IsErrAnd r (λ f. f ≡ fault)
      → (IsOptional files.unread name fault → IfErr r (IsUnread files (uses_of names))) → IfErr r (IsUnreadFor files names)
  schedule_unread name same fault used (inl optional) r is unread = unread_for r (unread optional)
  schedule_unread name same fault used (inr wrong) (Ok x) is unread = absurd is
  schedule_unread name same fault used (inr wrong) (Err f) is unread =
      let of_names : IsWrongFile files names.schedule wrong.0 = rw same wrong.2 in rw is (inr (wrong.0, wrong.1, (used, of_names)))

  pub no_memory : {T : Type 0} (r : Result T Fault) → IsErrAnd r (λ f. f ≡ Memory) → IfErr r (IsUnreadFor files names)
  no_memory (Ok x) is = absurd is
  no_memory (Err f) is = rw is (inl tt)
