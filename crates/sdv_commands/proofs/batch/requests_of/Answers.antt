use Rattle.std.proofs.Common.{◌≡◌, ◌+◌, ◌*◌, ◌∷◌, ◌++◌, [], arith, rules}
use Rattle.std.proofs.lemmas.Result.{err_from_is_err_and}
use Rattle.sdv_commands.specs.Batch.{word, IsRequest, NoRequest}
use Rattle.sdv_program.specs.declared.fault.Fault.TheVariants.{Usage}
use Rattle.sdv_commands.proofs.BatchWordsLaws.{one_more, all_so_far, none_here}
use Rattle.sdv_commands.proofs.batch.requests_of.Goals as goal

pub loop-i-preserved : goal.loop-i-preserved
loop-i-preserved c =
    let items : c.push.new.self.items ≡ c.loop-i.requests.items ++ c.in_ok-request.request ∷ [] = search rules in
    let is : IsRequest (word c.args.words.now (3 * c.loop-i.i)) (word c.args.words.now (3 * c.loop-i.i + 1))
    (word c.args.words.now (3 * c.loop-i.i + 2)) c.in_ok-request.request =
    search rules in
    rw items (one_more c.args.words.now c.loop-i.requests.items c.loop-i.i c.in_ok-request.request c.loop-i.invariant is)

pub returns-clause-requests : goal.returns-clause-requests
returns-clause-requests c =
    all_so_far c.args.words.now c.loop-i.requests.items c.loop-i.i c.loop-i.invariant c.if-words-ne0.false (omega arith)

pub returns-in_err-request-clause-refused : goal.returns-in_err-request-clause-refused
returns-in_err-request-clause-refused c =
    let p = err_from_is_err_and c.from_residual.result c.from_residual.ensures.1 in
    let usage : c.in_err-request.field-0.0 ≡ Usage = search rules in
    let none : NoRequest (word c.args.words.now (3 * c.loop-i.i)) (word c.args.words.now (3 * c.loop-i.i + 1)) (word c.args.words.now (3 * c.loop-i.i + 2)) =
    search rules in
    rw (p.1, p.2, usage) (none_here c.args.words.now c.loop-i.i (omega arith) none)
