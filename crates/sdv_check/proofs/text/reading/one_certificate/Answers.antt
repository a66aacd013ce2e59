use Rattle.sdv_check.proofs.Texts.{one_text}
use Rattle.sdv_check.proofs.text.reading.one_certificate.Goals as goal

pub returns : goal.returns
returns c = one_text
