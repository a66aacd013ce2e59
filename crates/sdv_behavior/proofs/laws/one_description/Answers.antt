use Rattle.std.proofs.Common.{◌≡◌, Some}
use Rattle.sdv_behavior.specs.Reading.{read_description}
use Rattle.sdv_behavior.proofs.ReadLaws.{said_is_read}
use Rattle.sdv_behavior.proofs.laws.one_description.Goals as goal

pub returns : goal.returns
returns c text a b first second =
    let one : read_description text ≡ Some a = said_is_read text a first in
    let other : read_description text ≡ Some b = said_is_read text b second in
    cc
