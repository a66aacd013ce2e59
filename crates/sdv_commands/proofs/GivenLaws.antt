-- Files of a run that cannot be used, after those that were.
use Rattle.std.proofs.Common.{◌≡◌, ◌⊎◌, refl, inl, inr, ℕ, List, [], ◌∷◌, ◌++◌, Option, Some, None, Result, Ok, Err, IfErr, IsErrAnd}
use Rattle.std.proofs.lemmas.Str.{IsUtf8-string_bytes}
use Rattle.std.specs.Prelude.{string_bytes}
use Rattle.std.specs.declared.string.String.{String}
use Rattle.std.specs.Borrow.{Bor}
use Rattle.std.specs.List.{AllByRecursion}
use Rattle.clap.specs.Words.{Text}
use Rattle.sdv_program.specs.Requests.{RunNames}
use Rattle.sdv_program.specs.Files.{CardImage, Files}
use Rattle.sdv_commands.specs.Run.{AreGiven, CannotBeUsed, FileUse, GivesImage, GivesInput, GivesSchedule, IsOptional, IsUnread, IsUnusable, IsUsed}
use Rattle.sdv_commands.specs.Run.{as_image, as_input, as_output, as_schedule, as_text, name_of, some_use, uses_of}
use Rattle.sdv_program.specs.declared.fault.Fault.{Fault}
use Rattle.sdv_program.specs.declared.fault.Fault.TheVariants.{File, Memory}
use Rattle.sdv_commands.specs.declared.given.Given.{Given}

module _ (files : Files) where
  pub text_gave : {Z : Type 0} (name : Text) (text : String Z) → files.gives name (string_bytes text) → IsUsed files (as_text name)
  text_gave name text given = (string_bytes text, given, IsUtf8-string_bytes text)

  pub schedule_gave : (name : Option Text) (codes : List ℕ) → GivesSchedule files name codes → AllByRecursion (IsUsed files) (some_use as_schedule name)
  schedule_gave None codes given = tt
  schedule_gave (Some file) codes given = ((codes, given), tt)

  pub input_gave : (name : Option Text) (bytes : List ℕ) → GivesInput files name bytes → AllByRecursion (IsUsed files) (some_use as_input name)
  input_gave None bytes given = tt
  input_gave (Some file) bytes given = ((bytes, given), tt)

  pub both_used : (xs ys : List FileUse) → AllByRecursion (IsUsed files) xs → AllByRecursion (IsUsed files) ys → AllByRecursion (IsUsed files) (xs ++ ys)
  both_used [] ys front back = back
  both_used (x ∷ xs) ys front back = (front.0, both_used xs ys front.1 back)

  module _ (uses : List FileUse) where
    -- what a fault at this use says
    pub unread : {T : Type 0} (wanted : FileUse) (file : Bor Text) → name_of wanted ≡ file.now → (earlier later : List FileUse)
        → uses ≡ earlier ++ wanted ∷ later → AllByRecursion (IsUsed files) earlier
        → (fault : Fault) → (fault ≡ File file) ⊎ (fault ≡ Memory) → (fault ≡ File file → CannotBeUsed files wanted)
        → (r : Result T Fault) → IsErrAnd r (λ f. f ≡ fault) → IfErr r (IsUnread files uses)
    unread wanted file is_file earlier later place used fault why failed (Ok x) is = absurd is
    unread wanted file is_file earlier later place used fault (inl unusable) failed (Err f) is =
        rw (is, unusable)
        (record { wanted = wanted; is_file = is_file; earlier = earlier; later = later; place = place; used = used; failed = failed unusable })
    unread wanted file is_file earlier later place used fault (inr memory) failed (Err f) is = rw (is, memory) tt

    module _ (to : Text → FileUse) (is_file : (file : Text) → name_of (to file) ≡ file) (unusable : Text → Type 0)
        (failed : (file : Text) → unusable file → CannotBeUsed files (to file)) where
      pub optional_unread : {T : Type 0} (name : Option (Bor Text)) (earlier later : List FileUse)
          → ((file : Bor Text) → name ≡ Some file → uses ≡ earlier ++ to file.now ∷ later) → AllByRecursion (IsUsed files) earlier
          → (fault : Fault) → IsOptional unusable name fault → (r : Result T Fault) → IsErrAnd r (λ f. f ≡ fault) → IfErr r (IsUnread files uses)
      optional_unread name earlier later place used fault why (Ok x) is = absurd is
      optional_unread name earlier later place used fault (inl at) (Err f) is =
          rw (is, at.2) (record {
            wanted = to at.0.now;
            is_file = is_file at.0.now;
            earlier = earlier;
            later = later;
            place = place at.0 at.1;
            used = used;
            failed = failed at.0.now at.3;
          })
      optional_unread name earlier later place used fault (inr memory) (Err f) is = rw (is, memory) tt

  module _ (names : RunNames) where
    abbrev pub four : List FileUse → List FileUse
    four more = as_text names.script ∷ as_text names.certificate ∷ as_text names.card ∷ as_image names.image ∷ more

    pub four_used : IsUsed files (as_text names.script) → IsUsed files (as_text names.certificate) → IsUsed files (as_text names.card)
        → (image : CardImage) → GivesImage files names.image image
        → (more : List FileUse) → AllByRecursion (IsUsed files) more → AllByRecursion (IsUsed files) (four more)
    four_used script certificate card image opened more used = (script, (certificate, (card, ((image, opened), used))))

    pub input_place : (schedule input : Option Text) (file : Text) (more : List FileUse) → input ≡ Some file
        → four [] ++ (some_use as_schedule schedule ++ (some_use as_input input ++ more)) ≡ four (some_use as_schedule schedule) ++ as_input file ∷ more
    input_place None input file more is = rw is refl
    input_place (Some first) input file more is = rw is refl

    output_place : (schedule input output : Option Text) (file : Text) (more : List FileUse) → output ≡ Some file
        → four [] ++ (some_use as_schedule schedule ++ (some_use as_input input ++ (some_use as_output output ++ more)))
        ≡ four (some_use as_schedule schedule ++ some_use as_input input) ++ as_output file ∷ more
    output_place None None output file more is = rw is refl
    output_place None (Some second) output file more is = rw is refl
    output_place (Some first) None output file more is = rw is refl
    output_place (Some first) (Some second) output file more is = rw is refl

    registers_place : (schedule input output registers : Option Text) (file : Text) → registers ≡ Some file
        → four [] ++ (some_use as_schedule schedule ++ (some_use as_input input ++ (some_use as_output output ++ some_use as_output registers)))
        ≡ four (some_use as_schedule schedule ++ (some_use as_input input ++ some_use as_output output)) ++ as_output file ∷ []
    registers_place None None None registers file is = rw is refl
    registers_place None None (Some third) registers file is = rw is refl
    registers_place None (Some second) None registers file is = rw is refl
    registers_place None (Some second) (Some third) registers file is = rw is refl
    registers_place (Some first) None None registers file is = rw is refl
    registers_place (Some first) None (Some third) registers file is = rw is refl
    registers_place (Some first) (Some second) None registers file is = rw is refl
    registers_place (Some first) (Some second) (Some third) registers file is = rw is refl

    output_made : (output : Option Text) → AllByRecursion (IsUsed files) (some_use as_output output)
    output_made None = tt
    output_made (Some file) = (tt, tt)

    module _ (given : Given) (image : CardImage) (are : AreGiven files names given image) where
      inputs_used : AllByRecursion (IsUsed files) (some_use as_schedule names.schedule ++ some_use as_input names.input)
      inputs_used =
          both_used (some_use as_schedule names.schedule) (some_use as_input names.input) (schedule_gave names.schedule given.codes.items are.schedule)
          (input_gave names.input given.input.items are.input)

      made_unusable : (file : Text) (used later : List FileUse) → AllByRecursion (IsUsed files) used
          → uses_of names ≡ four used ++ as_output file ∷ later → files.uncreated file → IsUnusable files (uses_of names) file
      made_unusable file used later are_used place uncreated = record {
        wanted = as_output file;
        is_file = refl;
        earlier = four used;
        later = later;
        place = place;
        used = four_used (text_gave names.script given.script are.script)
            (text_gave names.certificate given.certificate are.certificate)
            (text_gave names.card given.card are.card) image are.of_image used are_used;
        failed = uncreated;
      }

      -- a file of the output that cannot be made or emptied
      pub output_unusable : (file : Text) → names.output ≡ Some file → files.uncreated file → IsUnusable files (uses_of names) file
      output_unusable file is uncreated =
          made_unusable file (some_use as_schedule names.schedule ++ some_use as_input names.input) (some_use as_output names.registers) inputs_used
          (output_place names.schedule names.input names.output file (some_use as_output names.registers) is) uncreated

      -- one of the registers
      pub registers_unusable : (file : Text) → names.registers ≡ Some file → files.uncreated file → IsUnusable files (uses_of names) file
      registers_unusable file is uncreated =
          made_unusable file (some_use as_schedule names.schedule ++ (some_use as_input names.input ++ some_use as_output names.output)) []
          (both_used (some_use as_schedule names.schedule) (some_use as_input names.input ++ some_use as_output names.output)
          (schedule_gave names.schedule given.codes.items are.schedule)
          (both_used (some_use as_input names.input) (some_use as_output names.output) (input_gave names.input given.input.items are.input)
          (output_made names.output)))
          (registers_place names.schedule names.input names.output names.registers file is) uncreated
