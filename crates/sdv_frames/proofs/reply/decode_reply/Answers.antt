use Rattle.std.proofs.Common.{subst, sym, ap, ◌∙◌, arith}
use Rattle.std.specs.Prelude.{Ok}
use Rattle.sdv_frames.specs.Bits.{bits_of}
use Rattle.sdv_frames.specs.Frame.{IsReply, Answers, IsReplyFrame}
use Rattle.sdv_frames.specs.declared.layout.Check.TheVariants.{CrcOfAll, AllOnes}
use Rattle.sdv_frames.specs.declared.reply.Reply.TheVariants.{R1, R2, R3, R6, R7}
use Rattle.sdv_frames.specs.declared.reply.Expect.TheVariants as expects
use Rattle.sdv_frames.proofs.ReplyLaws.{no_reply, one_reply, waited_for, six_long, seventeen_long, found_r1, found_register, found_r3, found_r6, found_r7}
use Rattle.sdv_frames.proofs.reply.decode_reply.Goals as goal

pub returns-in_err-examine-clause-only : goal.returns-in_err-examine-clause-only
returns-in_err-examine-clause-only c r h a s =
    absurd (no_reply c.args.expect c.in-Some.layout r (bits_of c.args.bytes.now) (sym c.of_reply.ensures ∙ c.in-Some.is) c.in_err-examine.ensures.err h a s)

pub word_of-requires : goal.word_of-requires
word_of-requires c =
    six_long c.in-R1.index CrcOfAll c.in-Some.layout c.args.bytes.now
    (waited_for c.args.expect
    (expects.R1 c.in-R1.index) c.of_reply.result c.in-Some.layout c.of_reply.ensures c.in-Some.is c.in-R1.is) c.in_ok-examine.ensures.ok

pub returns-in-R1-clause-found : goal.returns-in-R1-clause-found
returns-in-R1-clause-found c =
    subst (λ e. IsReply (R1 c.in-R1.index c.word_of.result) × Answers e (R1 c.in-R1.index c.word_of.result)
    × IsReplyFrame (R1 c.in-R1.index c.word_of.result) c.args.bytes.now) (sym c.in-R1.is)
    (found_r1 c.in-R1.index c.in-Some.layout c.args.bytes.now c.word_of.result c.word_of.type_inv
    (waited_for c.args.expect
    (expects.R1 c.in-R1.index) c.of_reply.result c.in-Some.layout c.of_reply.ensures c.in-Some.is c.in-R1.is) c.in_ok-examine.ensures.ok c.word_of.ensures)

pub returns-in-R1-clause-only : goal.returns-in-R1-clause-only
returns-in-R1-clause-only c r h a s =
    let found = found_r1 c.in-R1.index c.in-Some.layout c.args.bytes.now c.word_of.result c.word_of.type_inv
    (waited_for c.args.expect
    (expects.R1 c.in-R1.index) c.of_reply.result c.in-Some.layout c.of_reply.ensures c.in-Some.is c.in-R1.is) c.in_ok-examine.ensures.ok c.word_of.ensures in
    ap Ok (one_reply (expects.R1 c.in-R1.index) (R1 c.in-R1.index c.word_of.result) r found.1 (subst (λ e. Answers e r) c.in-R1.is a)
    (bits_of c.args.bytes.now) found.0 h found.2 s)

pub word_of-requires-in-R3 : goal.word_of-requires-in-R3
word_of-requires-in-R3 c =
    six_long 63 AllOnes c.in-Some.layout c.args.bytes.now
    (waited_for c.args.expect expects.R3 c.of_reply.result c.in-Some.layout c.of_reply.ensures c.in-Some.is c.in-R3.is) c.in_ok-examine.ensures.ok

pub returns-in-R3-clause-found : goal.returns-in-R3-clause-found
returns-in-R3-clause-found c =
    subst (λ e. IsReply (R3 c.word_of-in-R3.result) × Answers e (R3 c.word_of-in-R3.result) × IsReplyFrame (R3 c.word_of-in-R3.result) c.args.bytes.now)
    (sym c.in-R3.is)
    (found_r3 c.in-Some.layout c.args.bytes.now c.word_of-in-R3.result c.word_of-in-R3.type_inv
    (waited_for c.args.expect expects.R3 c.of_reply.result c.in-Some.layout c.of_reply.ensures c.in-Some.is c.in-R3.is) c.in_ok-examine.ensures.ok
    c.word_of-in-R3.ensures)

pub returns-in-R3-clause-only : goal.returns-in-R3-clause-only
returns-in-R3-clause-only c r h a s =
    let found = found_r3 c.in-Some.layout c.args.bytes.now c.word_of-in-R3.result c.word_of-in-R3.type_inv
    (waited_for c.args.expect expects.R3 c.of_reply.result c.in-Some.layout c.of_reply.ensures c.in-Some.is c.in-R3.is) c.in_ok-examine.ensures.ok
    c.word_of-in-R3.ensures in
    ap Ok (one_reply expects.R3 (R3 c.word_of-in-R3.result) r found.1 (subst (λ e. Answers e r) c.in-R3.is a) (bits_of c.args.bytes.now) found.0 h found.2 s)

pub word_of-requires-in-R6 : goal.word_of-requires-in-R6
word_of-requires-in-R6 c =
    six_long 3 CrcOfAll c.in-Some.layout c.args.bytes.now
    (waited_for c.args.expect expects.R6 c.of_reply.result c.in-Some.layout c.of_reply.ensures c.in-Some.is c.in-R6.is) c.in_ok-examine.ensures.ok

pub returns-in-R6-clause-found : goal.returns-in-R6-clause-found
returns-in-R6-clause-found c =
    subst (λ e. IsReply (R6 c.word_of-in-R6.result) × Answers e (R6 c.word_of-in-R6.result) × IsReplyFrame (R6 c.word_of-in-R6.result) c.args.bytes.now)
    (sym c.in-R6.is)
    (found_r6 c.in-Some.layout c.args.bytes.now c.word_of-in-R6.result c.word_of-in-R6.type_inv
    (waited_for c.args.expect expects.R6 c.of_reply.result c.in-Some.layout c.of_reply.ensures c.in-Some.is c.in-R6.is) c.in_ok-examine.ensures.ok
    c.word_of-in-R6.ensures)

pub returns-in-R6-clause-only : goal.returns-in-R6-clause-only
returns-in-R6-clause-only c r h a s =
    let found = found_r6 c.in-Some.layout c.args.bytes.now c.word_of-in-R6.result c.word_of-in-R6.type_inv
    (waited_for c.args.expect expects.R6 c.of_reply.result c.in-Some.layout c.of_reply.ensures c.in-Some.is c.in-R6.is) c.in_ok-examine.ensures.ok
    c.word_of-in-R6.ensures in
    ap Ok (one_reply expects.R6 (R6 c.word_of-in-R6.result) r found.1 (subst (λ e. Answers e r) c.in-R6.is a) (bits_of c.args.bytes.now) found.0 h found.2 s)

pub word_of-requires-in-R7 : goal.word_of-requires-in-R7
word_of-requires-in-R7 c =
    six_long 8 CrcOfAll c.in-Some.layout c.args.bytes.now
    (waited_for c.args.expect expects.R7 c.of_reply.result c.in-Some.layout c.of_reply.ensures c.in-Some.is c.in-R7.is) c.in_ok-examine.ensures.ok

pub returns-in-R7-clause-found : goal.returns-in-R7-clause-found
returns-in-R7-clause-found c =
    subst (λ e. IsReply (R7 c.word_of-in-R7.result) × Answers e (R7 c.word_of-in-R7.result) × IsReplyFrame (R7 c.word_of-in-R7.result) c.args.bytes.now)
    (sym c.in-R7.is)
    (found_r7 c.in-Some.layout c.args.bytes.now c.word_of-in-R7.result c.word_of-in-R7.type_inv
    (waited_for c.args.expect expects.R7 c.of_reply.result c.in-Some.layout c.of_reply.ensures c.in-Some.is c.in-R7.is) c.in_ok-examine.ensures.ok
    c.word_of-in-R7.ensures)

pub returns-in-R7-clause-only : goal.returns-in-R7-clause-only
returns-in-R7-clause-only c r h a s =
    let found = found_r7 c.in-Some.layout c.args.bytes.now c.word_of-in-R7.result c.word_of-in-R7.type_inv
    (waited_for c.args.expect expects.R7 c.of_reply.result c.in-Some.layout c.of_reply.ensures c.in-Some.is c.in-R7.is) c.in_ok-examine.ensures.ok
    c.word_of-in-R7.ensures in
    ap Ok (one_reply expects.R7 (R7 c.word_of-in-R7.result) r found.1 (subst (λ e. Answers e r) c.in-R7.is a) (bits_of c.args.bytes.now) found.0 h found.2 s)

pub register_of-requires : goal.register_of-requires
register_of-requires c = seventeen_long c.in-Some.layout c.args.bytes.now
    (waited_for c.args.expect expects.R2 c.of_reply.result c.in-Some.layout c.of_reply.ensures c.in-Some.is c.in-R2.is) c.in_ok-examine.ensures.ok

pub returns-in-R2-clause-found : goal.returns-in-R2-clause-found
returns-in-R2-clause-found c =
    subst (λ e. IsReply (R2 c.register_of.result) × Answers e (R2 c.register_of.result) × IsReplyFrame (R2 c.register_of.result) c.args.bytes.now)
    (sym c.in-R2.is)
    (found_register c.in-Some.layout c.args.bytes.now c.register_of.result (λ i. omega (arith, c.type_inv.bytes i)) c.register_of.ensures
    (waited_for c.args.expect expects.R2 c.of_reply.result c.in-Some.layout c.of_reply.ensures c.in-Some.is c.in-R2.is) c.in_ok-examine.ensures.ok)

pub returns-in-R2-clause-only : goal.returns-in-R2-clause-only
returns-in-R2-clause-only c r h a s =
    let found = found_register c.in-Some.layout c.args.bytes.now c.register_of.result (λ i. omega (arith, c.type_inv.bytes i)) c.register_of.ensures
    (waited_for c.args.expect expects.R2 c.of_reply.result c.in-Some.layout c.of_reply.ensures c.in-Some.is c.in-R2.is) c.in_ok-examine.ensures.ok in
    ap Ok (one_reply expects.R2 (R2 c.register_of.result) r found.1 (subst (λ e. Answers e r) c.in-R2.is a) (bits_of c.args.bytes.now) found.0 h found.2 s)
