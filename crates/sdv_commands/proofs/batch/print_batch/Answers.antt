use Rattle.std.proofs.Common.{◌≡◌, ◌≢◌, ℕ, List, Option, Some, rules}
use Rattle.clap.specs.Words.{Text}
use Rattle.sdv_registers.specs.declared.kind.Kind.{Kind}
use Rattle.sdv_block.specs.Batch.{batch_refusal}
use Rattle.sdv_block.specs.declared.fault.BlockFault.{BlockFault}
use Rattle.sdv_block.specs.declared.fault.BlockFault.TheVariants as blocks
use Rattle.sdv_block.specs.declared.request.Request.{Request as Blocks}
use Rattle.sdv_program.specs.Fault.{fault_of_block}
use Rattle.sdv_block.specs.BatchText.{batch_script}
use Rattle.sdv_commands.specs.Batch.{AreRequests, AreWords, AsksBatch, BatchEnds, HasNoBatch, IsBatchText, kind_named}
use Rattle.sdv_program.specs.Outcomes.{outcome_of}
use Rattle.sdv_program.proofs.OutcomeLaws.{failed, prints}
use Rattle.sdv_program.proofs.StartLaws.{keeps_same}
use Rattle.sdv_commands.proofs.batch.print_batch.Goals as goal

-- a batch that is refused
unserved : (kind requests : Text) (k : Kind) (rs : List Blocks) (known : Option (List ℕ)) → AsksBatch kind requests k rs → (fault : BlockFault)
    → (fault ≢ blocks.Memory → batch_refusal k rs ≡ Some fault) → BatchEnds kind requests (Some (fault_of_block fault)) known known
unserved kind requests k rs known asks blocks.Memory refused = keeps_same known
unserved kind requests k rs known asks fault refused =
    (record { card = k; asked_for = rs; asks = asks; refused = refused (λ is. cc) }, keeps_same known)

pub returns-in_err-script : goal.returns-in_err-script
returns-in_err-script g c =
    let kind = c.args.kind.now in
    let requests = c.args.requests.now in
    let known = g.O.Write.contents c.args.out.now in
    let rs = c.in_ok-requests.requests.items in
    let named : kind_named kind ≡ Some c.in_ok-kind.kind = search rules in
    let of_text : AreWords requests c.in_ok-words.words.items = search rules in
    let are : AreRequests c.in_ok-words.words.items rs = search rules in
    let same : c.as_slice-2.result.now ≡ rs = search rules in
    let refused = rw same at c.in_err-script.ensures.refused in
    failed (λ outcome. BatchEnds kind requests outcome known known) _ c.from_residual-in_err-script.result
    c.from_residual-in_err-script.ensures.1
    (unserved kind requests c.in_ok-kind.kind rs known (record { named = named; words = c.in_ok-words.words.items; of_text = of_text; are = are })
    _ refused)

pub returns : goal.returns
returns g c =
    let kind = c.in_ok-kind.kind in
    let requests = c.in_ok-requests.requests.items in
    let named : kind_named c.args.kind.now ≡ Some kind = search rules in
    let of_text : AreWords c.args.requests.now c.in_ok-words.words.items = search rules in
    let are : AreRequests c.in_ok-words.words.items requests = search rules in
    let text : c.as_bytes.result.now ≡ (batch_script kind c.as_slice-2.result.now).text = search rules in
    let same : c.as_slice-2.result.now ≡ requests = search rules in
    let script = rw same at c.in_ok-script.ensures.script in
    let whole : c.as_bytes.result.now ≡ (batch_script kind requests).text = rw same at text in
    let asks : AsksBatch c.args.kind.now c.args.requests.now kind requests =
    record { named = named; words = c.in_ok-words.words.items; of_text = of_text; are = are } in
    prints (g.O.Write.contents c.args.out.now) (g.O.Write.contents c.print_text.new.out) (IsBatchText c.args.kind.now c.args.requests.now)
    (HasNoBatch c.args.kind.now c.args.requests.now) c.as_bytes.result.now (outcome_of c.print_text.result)
    (kind, requests, asks, script, whole) c.print_text.ensures
