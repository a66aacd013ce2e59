use Rattle.std.proofs.Common.{◌≡◌, ◌≢◌, rules, Option, option_map, List, ℕ}
use Rattle.sdv_check.specs.Verified.{IsGraphOfText}
use Rattle.sdv_program.proofs.OutcomeLaws.{failed}
use Rattle.sdv_program.proofs.StartLaws.{keeps_same}
use Rattle.sdv_commands.specs.Decode.{DecodesTexts, decodes, no_script}
use Rattle.sdv_commands.proofs.ScriptFaultLaws.{by_script}
use Rattle.sdv_commands.proofs.decode.decode_texts.Goals as goal

pub returns-in_err-script : goal.returns-in_err-script
returns-in_err-script g c =
    let t = c.args.texts in
    let given : Option (List ℕ) = option_map (λ bytes. bytes.now) c.args.given in
    let known = g.O.Write.contents c.args.out.now in
    failed (λ outcome. DecodesTexts c.args.form t.kind t.script.now t.trace.now given outcome known known) _ c.from_residual.result c.from_residual.ensures.1
    (by_script (λ outcome. DecodesTexts c.args.form t.kind t.script.now t.trace.now given outcome known known)
    c.in_err-script.field-0.0.kind c.in_err-script.field-0.0 (λ other. no_script (c.in_err-script.ensures.only other) (keeps_same known))
    (no_script tt (keeps_same known)))

pub returns-in_default : goal.returns-in_default
returns-in_default g c = no_script tt (keeps_same (g.O.Write.contents c.args.out.now))

pub returns-then-ne : goal.returns-then-ne
returns-then-ne g c =
    let graph = c.in-Ok.graph in
    let other : graph.kind ≢ c.args.texts.kind = search (rules, c.kind.ensures, c.ne.ensures, c.if-ne.true) in
    let of : IsGraphOfText c.args.texts.script.now graph =
    record { script = _; same = c.in_ok-script.ensures.text; is_script = c.in_ok-script.ensures.script; graph = c.in-Ok.ensures } in
    no_script (graph, of, other) (keeps_same (g.O.Write.contents c.args.out.now))

pub returns : goal.returns
returns g c =
    let graph = c.in-Ok.graph in
    let kind : graph.kind ≡ c.args.texts.kind = search (rules, c.kind.ensures, c.ne.ensures, c.if-ne.false) in
    let of : IsGraphOfText c.args.texts.script.now graph =
    record { script = _; same = c.in_ok-script.ensures.text; is_script = c.in_ok-script.ensures.script; graph = c.in-Ok.ensures } in
    decodes graph of kind (rw c.as_bytes.ensures.value at c.decode_graph.ensures)
