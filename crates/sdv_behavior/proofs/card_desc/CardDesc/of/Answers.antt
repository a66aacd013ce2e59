use Rattle.std.proofs.Common.{rules, ◌≡◌, ◌≤◌, ◌^◌, ◌==◌, ◌&&◌, ◌||◌, true}
use Rattle.std.proofs.lemmas.Bool.{and_parts, le-leb}
use Rattle.sdv_behavior.specs.declared.description.Description.TheVariants.{SdBytes}
use Rattle.sdv_behavior.specs.Grammar.{size_fits, rca_fits, in_ranges}
use Rattle.sdv_behavior.specs.Registers.{size_blocks}
use Rattle.sdv_behavior.proofs.DescribedLaws.{is_size, most_size_blocks}
use Rattle.sdv_behavior.proofs.card_desc.CardDesc.of.Goals as goal

pub returns-in-SdBytes : goal.returns-in-SdBytes
returns-in-SdBytes c =
    let i = c.in-SdBytes in
    let ranges : in_ranges (SdBytes i.version i.size i.rca) ≡ true = rw i.is at c.requires in
    let p = and_parts (((i.version == 1) || (i.version == 2)) && size_fits i.size) (rca_fits i.rca) ranges in
    let q = and_parts ((i.version == 1) || (i.version == 2)) (size_fits i.size) p.0 in
    let most : size_blocks i.size ≤ 2 ^ 23 = most_size_blocks i.size (is_size i.size q.1) in
    rw i.is (record { same = c.sd_bytes.ensures; within = le-leb _ _ most })

pub returns-in-EmmcBytes : goal.returns-in-EmmcBytes
returns-in-EmmcBytes c = search rules
