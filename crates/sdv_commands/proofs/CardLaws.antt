-- What a card that answers lines leaves.
use Rattle.std.proofs.Common.{◌≡◌, subst, inl, inr, ℕ, List, Option, Result, Ok, Err, IfErr, IsErrAnd}
use Rattle.std.specs.Prelude.{string_bytes}
use Rattle.std.specs.Borrow.{Bor}
use Rattle.sdv_image.specs.declared.fault.SimFault.{SimFault}
use Rattle.sdv_image.specs.declared.fault.SimFault.TheVariants as cards
use Rattle.sdv_image.specs.declared.image.Image.{Ghosts}
use Rattle.sdv_behavior.specs.SimSteps.{SimSteps}
use Rattle.sdv_controller.specs.Controlled.{ControllerSteps, wire_of}
use Rattle.sdv_controller.specs.declared.controller.Controller.{Controller}
use Rattle.sdv_sim.specs.SimOf.{state_of}
use Rattle.sdv_sim.specs.declared.sim.Sim.{Sim}
use Rattle.sdv_lines.specs.declared.fault.ServeFault.{ServeFault}
use Rattle.sdv_lines.specs.Serving.{ServesAll}
use Rattle.sdv_program.specs.Requests.{CardNames}
use Rattle.sdv_program.specs.declared.fault.Fault.{Fault}
use Rattle.sdv_program.specs.declared.fault.Fault.TheVariants.{File, Card, Memory}
use Rattle.sdv_program.specs.Fault.{fault_of_card}
use Rattle.sdv_program.specs.Files.{CardImage, Files}
use Rattle.sdv_commands.specs.Run.{IsUnread, IsUnreadable, LosesImage}
use Rattle.sdv_commands.proofs.RunLaws.{NoCard, no_card_so, sim_of}
use Rattle.sdv_commands.proofs.RunMaps.{seen_step}
use Rattle.sdv_commands.proofs.ServedMaps.{seen_all}
use Rattle.sdv_commands.specs.declared.card.Given.{Given}
use Rattle.sdv_commands.specs.CardSide.{AreGiven, CardFails, ComesToEnd, FailsToKeep, IsKept, IsLost, IsQuiet, RefusesCard, uses_of}

-- requests that the card answered, by the card's state
module _ {I : Type 0} {images : Ghosts I} where
  pub served_by_sim : (room : ℕ) (p p' : Controller (Sim I images)) (a a' r r' : Option (List ℕ)) (result : Result (Unit {0}) ServeFault)
      → ServesAll (λ c call returned c'. ControllerSteps (λ s call returned s'. SimSteps (state_of s) call returned (state_of s')) (wire_of c) call returned
      (wire_of c')) room p p' a a' r r' result
      → ServesAll (ControllerSteps SimSteps) room (sim_of p) (sim_of p') a a' r r' result
  served_by_sim room p p' a a' r r' result served =
      seen_all sim_of _ (ControllerSteps SimSteps) (λ c call returned c' step. seen_step state_of SimSteps (wire_of c) call returned (wire_of c') step)
      room p p' a a' r r' result served

-- there is no card
pub refused_card : {T : Type 0} (given : Given) (image : CardImage) (unread : Type 0) (fault : SimFault) (r : Result T Fault)
    → NoCard (string_bytes given.card) given.codes.items image unread fault → IsErrAnd r (λ f. f ≡ fault_of_card fault)
    → IfErr r (RefusesCard given image unread)
refused_card given image unread fault (Ok x) has is = absurd is
refused_card given image unread cards.Memory (Err f) has is = rw is tt
refused_card given image unread cards.Description (Err f) has is = rw is (has (λ same. absurd (cc same)))
refused_card given image unread cards.Capacity (Err f) has is = rw is (has (λ same. absurd (cc same)))
refused_card given image unread cards.ImageLength (Err f) has is = rw is (has (λ same. absurd (cc same)))
refused_card given image unread cards.ImageRead (Err f) has is = rw is (has (λ same. absurd (cc same)))

module _ (files : Files) (names : CardNames) (a a' r r' : Option (List ℕ)) where
  module _ (given : Given) (image : CardImage) where
    refuses_so : (U V : Type 0) → (U → V) → (fault : Fault) → RefusesCard given image U fault → RefusesCard given image V fault
    refuses_so U V more (Card fault) refuses = no_card_so U V more (string_bytes given.card) given.codes.items image fault refuses
    refuses_so U V more Memory refuses = refuses
    refuses_so U V more fault refuses = absurd refuses

    unkept : (fault : Fault) → RefusesCard given image (IsUnreadable files names.image) fault → IsQuiet a a' r r'
        → FailsToKeep files names given image fault a a' r r'
    unkept (Card fault) refuses quiet = (refuses, quiet)
    unkept Memory refuses quiet = (refuses, quiet)
    unkept fault refuses quiet = absurd refuses

    pub refusal_unkept : {T : Type 0} (U : Type 0) → (U → IsUnreadable files names.image) → (fault : Fault) → RefusesCard given image U fault
        → IsQuiet a a' r r' → (o : Result T Fault) → IsErrAnd o (λ f. f ≡ fault)
        → IfErr o (λ f. FailsToKeep files names given image f a a' r r')
    refusal_unkept U more fault refuses quiet (Ok x) is = absurd is
    refusal_unkept U more fault refuses quiet (Err f) is = rw is (unkept fault (refuses_so U (IsUnreadable files names.image) more fault refuses) quiet)

    pub close_fails : {T : Type 0} (file : Bor _) → file.now ≡ names.image → IsLost given image a a' r r' → LosesImage files names.image
        → (fault : Fault) → fault ≡ File file → (o : Result T Fault) → IsErrAnd o (λ f. f ≡ fault)
        → IfErr o (λ f. FailsToKeep files names given image f a a' r r')
    close_fails file same lost loses fault of (Ok x) is = absurd is
    close_fails file same lost loses fault of (Err f) is = rw (is, of) (lost, same, loses)

    pub comes_to_end : AreGiven files names given image → (end end' : Result (Unit {0}) ServeFault) → end ≡ end'
        → IsKept files names given image end a a' r r' → ComesToEnd files names end' a a' r r'
    comes_to_end are end end' same kept =
        subst (λ e. ComesToEnd files names e a a' r r') same (record { given = given; image = image; are_given = are; kept = kept })

    fails_of : AreGiven files names given image → (fault : Fault) → FailsToKeep files names given image fault a a' r r'
        → CardFails files names fault a a' r r'
    fails_of are (File file) fails = inr (record { given = given; image = image; are_given = are; fails = fails })
    fails_of are (Card fault) fails = record { given = given; image = image; are_given = are; fails = fails }
    fails_of are Memory fails = fails.1
    fails_of are fault fails = absurd fails.0

    pub kept_fails : {T : Type 0} → AreGiven files names given image → (fault : Fault) → FailsToKeep files names given image fault a a' r r'
        → (o : Result T Fault) → IsErrAnd o (λ f. f ≡ fault) → IfErr o (λ f. CardFails files names f a a' r r')
    kept_fails are fault fails (Ok x) is = absurd is
    kept_fails are fault fails (Err f) is = rw is (fails_of are fault fails)

  -- a file that is read gave nothing
  pub unread_fails : {T : Type 0} (fault : Fault) (o : Result T Fault) → IsUnread files (uses_of names) fault → IsQuiet a a' r r'
      → IsErrAnd o (λ f. f ≡ fault) → IfErr o (λ f. CardFails files names f a a' r r')
  unread_fails fault (Ok x) unread quiet is = absurd is
  unread_fails (File file) (Err f) unread quiet is = rw is (inl (unread, quiet))
  unread_fails Memory (Err f) unread quiet is = rw is quiet
  unread_fails fault (Err f) unread quiet is = absurd unread
