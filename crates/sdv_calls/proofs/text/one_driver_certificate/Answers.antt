use Rattle.sdv_calls.proofs.TextLaws.{one_text}
use Rattle.sdv_calls.proofs.text.one_driver_certificate.Goals as goal

pub returns : goal.returns
returns c = one_text
