use Rattle.std.proofs.Common.{◌≡◌, ◌∙◌}
use Rattle.std.specs.Prelude.{decimal}
use Rattle.sdv_refute.specs.WrongLine.{name_text}
use Rattle.sdv_telling.specs.Cards.{state_word}
use Rattle.sdv_wrong_words.specs.WrongEvent.{step_text, why_words}
use Rattle.sdv_wrong_words.proofs.event.write_wrong_event.Goals as goal

pub returns : goal.returns
returns g c =
    let event = c.args.event in
    let line : c.as_bytes-line.result.now ≡ decimal event.line = c.as_bytes-line.ensures.value ∙ c.format.ensures.text in
    let name : c.as_slice.result.now ≡ name_text event.next = c.as_slice.ensures.value ∙ c.name_of-name.ensures in
    let state : c.as_bytes-state.result.now ≡ state_word event.state = c.as_bytes-state.ensures.value ∙ c.state_word.ensures in
    let step : c.as_bytes-step.result.now ≡ step_text event.after_step = c.as_bytes-step.ensures.value ∙ c.step_text.ensures in
    let why : c.as_bytes-why.result.now ≡ why_words event.why = c.as_bytes-why.ensures.value ∙ c.why_words.ensures in
    rw (line, name, state, step, why) at c.write_texts.ensures
