use Rattle.std.proofs.Common.{◌≡◌, inr, rules, ℕ, List, Option}
use Rattle.sdv_program.specs.Outcomes.{Reports}
use Rattle.sdv_commands.proofs.DecodeLaws.{no_bytes}
use Rattle.sdv_commands.specs.Describe.{HasNoPage, IsPageOf}
use Rattle.sdv_commands.proofs.describe.describe_bytes.Goals as goal

pub returns-in_err-bytes : goal.returns-in_err-bytes
returns-in_err-bytes g c =
    no_bytes (g.S.Store.known c.args.files.now) c.args.file
    (λ (schedule : Option (List ℕ)). Reports (IsPageOf c.args.description.now schedule) HasNoPage)
    (g.O.Write.contents c.args.out.now)
    c.in_err-bytes.field-0.0 c.in_err-bytes.ensures.refused c.in_err-bytes.ensures.unread c.from_residual.result c.from_residual.ensures.1

pub returns : goal.returns
returns g c =
    let bytes : c.as_slice.result.now ≡ c.in_ok-bytes.bytes.items = search rules in
    inr (c.in_ok-bytes.bytes.items, c.in_ok-bytes.ensures.given, rw bytes at c.describe_text.ensures)
