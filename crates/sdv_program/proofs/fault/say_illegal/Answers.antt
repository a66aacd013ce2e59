use Rattle.std.proofs.Common.{◌≡◌, ◌∙◌}
use Rattle.std.specs.Prelude.{decimal}
use Rattle.std.specs.Int.{w64, to_be_bytes}
use Rattle.hex.specs.Hex.{encode_lower}
use Rattle.sdv_program.proofs.fault.say_illegal.Goals as goal

pub returns : goal.returns
returns g c =
    let point : c.as_bytes-point.result.now ≡ decimal c.args.point = c.as_bytes-point.ensures.value ∙ c.format.ensures.text in
    let digits : c.digits_of.result ≡ encode_lower (to_be_bytes w64 c.args.shape.0) = c.digits_of.ensures in
    rw (point, digits) at c.write_texts.ensures
