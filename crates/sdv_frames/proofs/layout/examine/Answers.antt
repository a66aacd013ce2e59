use Rattle.std.proofs.Common.{arith}
use Rattle.sdv_frames.proofs.FaultLaws.{length_differs, start_first, direction_first, index_first, crc_first, end_first, reserved_first, none_found}
use Rattle.sdv_frames.proofs.layout.examine.Goals as goal

pub returns-then-bytes-length-clause-err : goal.returns-then-bytes-length-clause-err
returns-then-bytes-length-clause-err c = record { there = length_differs c.args.bytes.now c.args.layout.now.length c.if-bytes-length.true; first = tt }

pub returns-then-first-ne0-clause-err : goal.returns-then-first-ne0-clause-err
returns-then-first-ne0-clause-err c =
    start_first c.args.layout.now c.args.bytes.now c.requires c.if-bytes-length.false (λ i. omega (arith, c.type_inv.bytes i))
    c.if-first-ne0.true

pub returns-then-first-layout-clause-err : goal.returns-then-first-layout-clause-err
returns-then-first-layout-clause-err c =
    direction_first c.args.layout.now c.args.bytes.now c.requires c.if-bytes-length.false (λ i. omega (arith, c.type_inv.bytes i))
    c.if-first-ne0.false c.if-first-layout.true

pub returns-then-index_differs-clause-err : goal.returns-then-index_differs-clause-err
returns-then-index_differs-clause-err c =
    index_first c.args.layout.now c.args.bytes.now c.requires c.if-bytes-length.false (λ i. omega (arith, c.type_inv.bytes i))
    c.if-first-ne0.false c.if-first-layout.false c.if-index_differs.ensures

pub returns-then-crc_differs-clause-err : goal.returns-then-crc_differs-clause-err
returns-then-crc_differs-clause-err c =
    crc_first c.args.layout.now c.args.bytes.now c.requires c.if-bytes-length.false (λ i. omega (arith, c.type_inv.bytes i))
    c.if-first-ne0.false c.if-first-layout.false c.if-index_differs.ensures c.if-crc_differs.ensures

pub returns-then-last-eq0-clause-err : goal.returns-then-last-eq0-clause-err
returns-then-last-eq0-clause-err c =
    end_first c.args.layout.now c.args.bytes.now c.requires c.if-bytes-length.false (λ i. omega (arith, c.type_inv.bytes i))
    c.if-first-ne0.false c.if-first-layout.false c.if-index_differs.ensures c.if-crc_differs.ensures c.if-last-eq0.true

pub returns-then-reserved_differ-clause-err : goal.returns-then-reserved_differ-clause-err
returns-then-reserved_differ-clause-err c =
    reserved_first c.args.layout.now c.args.bytes.now c.requires c.if-bytes-length.false (λ i. omega (arith, c.type_inv.bytes i))
    c.if-first-ne0.false c.if-first-layout.false c.if-index_differs.ensures c.if-crc_differs.ensures c.if-last-eq0.false c.if-reserved_differ.ensures

pub returns-clause-ok : goal.returns-clause-ok
returns-clause-ok c =
    none_found c.args.layout.now c.args.bytes.now c.requires c.if-bytes-length.false (λ i. omega (arith, c.type_inv.bytes i))
    c.if-first-ne0.false c.if-first-layout.false c.if-index_differs.ensures c.if-crc_differs.ensures c.if-last-eq0.false c.if-reserved_differ.ensures
