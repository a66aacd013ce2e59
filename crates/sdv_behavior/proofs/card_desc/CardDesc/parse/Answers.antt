use Rattle.std.proofs.Common.{◌≡◌, None, Some, List, ℕ, sym, subst}
use Rattle.sdv_behavior.specs.Grammar.{IsTextOf}
use Rattle.sdv_behavior.specs.Reading.{read_description}
use Rattle.sdv_behavior.proofs.ReadLaws.{read_is_said, said_is_read}
use Rattle.sdv_behavior.proofs.DescribedLaws.{answered}
use Rattle.sdv_behavior.proofs.card_desc.CardDesc.parse.Goals as goal

pub of-requires : goal.of-requires
of-requires c = (read_is_said c.as_bytes.result.now c.in-Some.read (sym c.in-Some.ensures)).ranges

pub returns-in-Some : goal.returns-in-Some
returns-in-Some c =
    let said : IsTextOf c.in-Some.read c.args.text.now =
    subst (λ (l : List ℕ). IsTextOf c.in-Some.read l) c.as_bytes.ensures.value
    (read_is_said c.as_bytes.result.now c.in-Some.read (sym c.in-Some.ensures)) in
    answered c.args.text.now c.in-Some.read said c.of.result c.of.ensures

pub returns-in-None : goal.returns-in-None
returns-in-None c read said =
    let some : read_description c.args.text.now ≡ Some read = said_is_read c.args.text.now read said in
    let none : None ≡ read_description c.args.text.now = subst (λ (l : List ℕ). None ≡ read_description l) c.as_bytes.ensures.value c.in-None.ensures in
    cc
