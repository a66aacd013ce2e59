-- What the row of a command says is enough.
use Rattle.std.proofs.Common.{◌≡◌, ℕ, List, Option, Some, refl, ap, sym, ◌∙◌}
use Rattle.sdv_frames.specs.declared.reply.Reply.TheVariants.{R1, R2, R3, R6, R7}
use Rattle.sdv_registers.specs.declared.kind.Kind.{Kind}
use Rattle.sdv_card.specs.declared.event.Ask.{Ask}
use Rattle.sdv_card.specs.declared.answer.Answer.{Answer}
use Rattle.sdv_card.specs.declared.answer.Answer.TheVariants.{Sent, TimeOut, Reply, Damaged}
use Rattle.sdv_card.specs.declared.command.Order.{Order}
use Rattle.sdv_card.specs.declared.command.Order.TheVariants.{GoIdleState, SendRelativeAddress, SendCsd, ReadSingleBlock, ReadMultipleBlock, WriteBlock, WriteMultipleBlock}
use Rattle.sdv_card.specs.CommandTable.{order_argument, argument_or_none, order_expect, expect_or_nothing}
use Rattle.sdv_card.specs.Host.{Host, host_after_order, rca_known, csd_known, announced_by, register_length_by}
use Rattle.sdv_card.proofs.RowsOfOrders.{order_index}
use Rattle.sdv_card.proofs.OrdersOfAsks.{LineOf, WritesCount, line_of}
use Rattle.sdv_table.specs.Fits.{HasOrder}
use Rattle.sdv_table.specs.Sending.{source_of, source_or_own, data_after, data_or_nothing, argument_from, rca_from, rca_by, csd_from, csd_by, announced_from, length_from, IsEnough}

argument_enough : (order : Order) (argument rca address : ℕ)
    → argument_from (source_of order) (order_argument order argument 0 0) rca address ≡ order_argument order argument rca address
argument_enough GoIdleState argument rca address = refl
argument_enough order argument rca address = refl

published : (answer : Answer) (rca : ℕ) → rca_from answer rca ≡ rca_known SendRelativeAddress answer rca
published Sent rca = refl
published TimeOut rca = refl
published (Damaged f) rca = refl
published (Reply (R1 i w)) rca = refl
published (Reply (R2 w)) rca = refl
published (Reply (R3 w)) rca = refl
published (Reply (R6 w)) rca = refl
published (Reply (R7 w)) rca = refl

rca_enough : (order : Order) (i : ℕ) (answer : Answer) (rca : ℕ) → rca_by (order_index order) (order_expect order i) answer rca ≡ rca_known order answer rca
rca_enough SendRelativeAddress i answer rca = published answer rca
rca_enough order i answer rca = refl

shown : (answer : Answer) (csd : Option (List ℕ)) → csd_from answer csd ≡ csd_known SendCsd answer csd
shown Sent csd = refl
shown TimeOut csd = refl
shown (Damaged f) csd = refl
shown (Reply (R1 i w)) csd = refl
shown (Reply (R2 w)) csd = refl
shown (Reply (R3 w)) csd = refl
shown (Reply (R6 w)) csd = refl
shown (Reply (R7 w)) csd = refl

csd_enough : (order : Order) (answer : Answer) (csd : Option (List ℕ)) → csd_by (order_index order) answer csd ≡ csd_known order answer csd
csd_enough SendCsd answer csd = shown answer csd
csd_enough order answer csd = refl

announced_enough : (order : Order) (count before : ℕ) → WritesCount order count → announced_from (data_after order) count before ≡ announced_by order before
announced_enough ReadSingleBlock count before is = is
announced_enough (ReadMultipleBlock n) count before is = is.same
announced_enough WriteBlock count before is = is
announced_enough (WriteMultipleBlock n) count before is = is.same
announced_enough order count before is = refl

length_enough : (order : Order) (before : ℕ) → length_from (data_after order) before ≡ register_length_by order before
length_enough GoIdleState before = refl
length_enough order before = refl

host_with : Host → ℕ → Option (List ℕ) → (announced length : ℕ) → Host
host_with h rca csd announced length = record h { rca = rca; csd = csd; announced = announced; register_length = length }

host_enough : (order : Order) (index count : ℕ) (answer : Answer) (h : Host) → index ≡ order_index order → WritesCount order count
    → host_with h (rca_by index (order_expect order index) answer h.rca) (csd_by index answer h.csd)
    (announced_from (data_after order) count h.announced) (length_from (data_after order) h.register_length)
    ≡ host_after_order (Some order) answer h
unfolding host_with
host_enough order index count answer h is writes =
    let announced = announced_from (data_after order) count h.announced in
    let length = length_from (data_after order) h.register_length in
    ap (λ i. host_with h (rca_by i (order_expect order index) answer h.rca) (csd_by i answer h.csd) announced length) is
    ∙ ap (λ r. host_with h r (csd_by (order_index order) answer h.csd) announced length) (rca_enough order index answer h.rca)
    ∙ ap (λ c. host_with h (rca_known order answer h.rca) c announced length) (csd_enough order answer h.csd)
    ∙ ap (λ n. host_with h (rca_known order answer h.rca) (csd_known order answer h.csd) n length)
    (announced_enough order count h.announced writes)
    ∙ ap (λ n. host_with h (rca_known order answer h.rca) (csd_known order answer h.csd) (announced_by order h.announced) n)
    (length_enough order h.register_length)

pub enough : (k : Kind) (ask : Ask) → HasOrder k ask → IsEnough k ask
unfolding host_with
enough k ask has =
    let order = has.0 in
    let is = has.1.line in
    let line : LineOf k ask order = line_of k ask order is in
    record {
      argument = λ rca address.
          ap (λ o. argument_from (source_or_own o) (argument_or_none o ask.argument 0 0) rca address) is
          ∙ argument_enough order ask.argument rca address ∙ ap (λ o. argument_or_none o ask.argument rca address) (sym is);
      host = λ answer h.
          ap (λ o. host_with h (rca_by ask.index (expect_or_nothing o ask.index) answer h.rca) (csd_by ask.index answer h.csd)
          (announced_from (data_or_nothing o) ask.count h.announced) (length_from (data_or_nothing o) h.register_length)) is
          ∙ host_enough order ask.index ask.count answer h line.index line.count
          ∙ ap (λ o. host_after_order o answer h) (sym is);
    }
