use Rattle.sdv_frames.proofs.CheckLaws.{crc_by_test, contents_by_test}
use Rattle.sdv_frames.proofs.layout.crc_differs.Goals as goal

pub returns-in-CrcOfAll : goal.returns-in-CrcOfAll
returns-in-CrcOfAll c = rw c.in-CrcOfAll.is (crc_by_test _ c.crc7.result c.args.seven c.crc7.ensures.degree c.requires.bits c.crc7.ensures.remainder)

pub returns-in-CrcOfContents : goal.returns-in-CrcOfContents
returns-in-CrcOfContents c =
    rw c.in-CrcOfContents.is
    (contents_by_test c.args.front.now c.crc7-in-CrcOfContents.result c.args.seven c.requires.contents c.crc7-in-CrcOfContents.ensures.degree c.requires.bits
    c.crc7-in-CrcOfContents.ensures.remainder)
