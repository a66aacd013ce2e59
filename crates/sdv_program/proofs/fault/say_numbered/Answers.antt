use Rattle.std.proofs.Common.{◌≡◌, ◌∙◌}
use Rattle.std.specs.Prelude.{decimal}
use Rattle.sdv_program.proofs.fault.say_numbered.Goals as goal

pub returns : goal.returns
returns g c =
    let words : c.as_bytes-words.result.now ≡ c.args.words.now = c.as_bytes-words.ensures.value in
    let name : c.as_bytes-name.result.now ≡ c.args.name.now = c.as_bytes-name.ensures.value in
    let of : c.as_bytes-of.result.now ≡ c.args.of.now = c.as_bytes-of.ensures.value in
    let number : c.as_bytes-number.result.now ≡ decimal c.args.number = c.as_bytes-number.ensures.value ∙ c.format.ensures.text in
    rw (words, name, of, number) at c.write_texts.ensures
