-- THE KINDS of findings, in words that an option and a comment name.
use Rattle.std.specs.Prelude.{codes}
use Rattle.sdv_telling.specs.Statements.{Text}
use Rattle.sdv_review.specs.declared.finding.Matter.{Matter}
use Rattle.sdv_review.specs.declared.finding.Matter.TheVariants.{Unreached, Partition, BootEnable, OneWay, Unread, Misplaced, Shifted, Unstored}
use Rattle.sdv_review.specs.declared.status.Status.{Status}
use Rattle.sdv_review.specs.declared.status.Status.TheVariants.{EraseOpen, EraseFailed, EraseLeft}

abbrev pub status_kind : Status → Text
status_kind (EraseOpen e) = codes "erase"
status_kind (EraseFailed e) = codes "erase"
status_kind (EraseLeft erase next) = codes "erase"
status_kind status = codes "write"

abbrev pub kind_word : Matter → Text
kind_word Unreached = codes "unreached"
kind_word (Partition index reach) = codes "partition"
kind_word BootEnable = codes "boot-enable"
kind_word (OneWay holds) = codes "one-way"
kind_word (Unread name) = codes "unread"
kind_word (Misplaced index) = codes "partition"
kind_word Shifted = codes "input-shifts"
kind_word (Unstored status) = status_kind status
