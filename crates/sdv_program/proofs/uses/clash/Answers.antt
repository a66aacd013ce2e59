use Rattle.std.proofs.Common.{◌≡◌, ◌∙◌, None, arith, map, sym}
use Rattle.std.proofs.lemmas.List.{length-map}
use Rattle.std.proofs.lemmas.Option.{slice_get-get_or, slice_get_within}
use Rattle.sdv_program.specs.Uses.{seen_role}
use Rattle.sdv_program.proofs.UsesLaws.{apart_here, clashes_here, if_some, not_some, one_more}
use Rattle.sdv_program.proofs.uses.clash.Goals as goal

pub returns-then-is_some-clause-clashes : goal.returns-then-is_some-clause-clashes
returns-then-is_some-clause-clashes g c =
    let roles = c.args.roles.now in
    if_some _ _ c.written_over-over.result
    (λ file over. clashes_here (g.S.Store.known c.args.files.now) roles c.loop-place.place _
    (slice_get-get_or roles c.loop-place.place _ (omega (arith, c.loop-place-test.true))) file.now over)
    c.written_over-over.ensures.over

pub loop-place-preserved : goal.loop-place-preserved
loop-place-preserved g c =
    let roles = c.args.roles.now in
    let known = g.S.Store.known c.args.files.now in
    let none : c.written_over-over.result ≡ None = not_some _ (sym c.is_some.ensures ∙ c.if-is_some.false) in
    one_more known (map seen_role roles) c.loop-place.place c.loop-place.invariant
    (apart_here known roles c.loop-place.place _ (slice_get-get_or roles c.loop-place.place _ (omega (arith, c.loop-place-test.true)))
    (c.written_over-over.ensures.off none))

pub returns-clause-apart : goal.returns-clause-apart
returns-clause-apart g c none place role is =
    let roles = map seen_role c.args.roles.now in
    c.loop-place.invariant place
    (omega (arith, slice_get_within roles place role is, length-map c.args.roles.now seen_role, c.loop-place-test.false)) role is
