use Rattle.std.proofs.Common.{◌≡◌, ◌⊎◌, ap, inl, inr, sym, List, ℕ, Some, option_map, true}
use Rattle.std.specs.Io.KnownBytes.{Appends}
use Rattle.sdv_program.specs.Requests.{names_of}
use Rattle.sdv_program.specs.Files.{Files}
use Rattle.sdv_commands.specs.RunImages.{image_given}
use Rattle.sdv_commands.proofs.RunLaws.{opened_of, registers_lost, registers_told}
use Rattle.sdv_commands.proofs.run.run_registered.Goals as goal

-- what a file that was ended says of its bytes, or of a part of them
said : {R : Type 0} (made : R) (opened : R → Type 0) (Says : (made : R) → List ℕ → Type 0) (received : List ℕ → Type 0) (U F : Type 0) → opened made
    → U ⊎ (F × ((other : R) (bytes : List ℕ) → opened other → Says other bytes → received bytes))
    → U ⊎ (F × ((bytes : List ℕ) → Says made bytes → received bytes))
said made opened Says received U F is_made (inl unfinished) = inl unfinished
said made opened Says received U F is_made (inr ended) = inr (ended.0, λ bytes says. ended.1 made bytes is_made says)

pub returns-in_err-finish_registers-in-Some-clause-fails : goal.returns-in_err-finish_registers-in-Some-clause-fails
returns-in_err-finish_registers-in-Some-clause-fails g c =
    let files : Files = g.S.Store.known c.args.named.files.now in
    let names = names_of c.args.named.names.now in
    let file : Some c.in-Some.file.now ≡ names.registers = sym (ap (option_map (λ file. file.now)) c.in-Some.is) in
    let made = opened_of c.create.result _ c.in_ok-registers-in-Some.registers (g.S.Store.opened c.args.named.files.now c.in-Some.file.now)
    c.in_ok-registers-in-Some.ensures.value c.create.ensures.made in
    let registers = c.in_ok-end-in-Some.outputs.registers in
    registers_lost files names c.args.given.now c.in_ok-end-in-Some.end _ _ _ _
    (image_given g.S.Image.BlockFile.byte_count g.S.Image.BlockFile.blocks c.args.image)
    (g.S.Sink.Write.contents c.in_ok-registers-in-Some.registers) (g.S.Sink.Write.contents registers.writer) c.in-Some.file file registers.has_failed
    (said c.in_ok-registers-in-Some.registers (g.S.Store.opened c.args.named.files.now c.in-Some.file.now)
    (λ made bytes. Appends (g.S.Sink.Write.contents made) (g.S.Sink.Write.contents registers.writer) bytes) (files.received c.in-Some.file.now)
    (files.unfinished c.in-Some.file.now) (registers.has_failed ≡ true) made c.in_err-finish_registers-in-Some.ensures.lost)
    c.in_ok-end-in-Some.ensures.kept
    c.in_err-finish_registers-in-Some.field-0.0 c.in_err-finish_registers-in-Some.ensures.refused
    c.from_residual-in_err-finish_registers-in-Some.result c.from_residual-in_err-finish_registers-in-Some.ensures.1

pub returns-in_ok-finish_registers-in-Some-clause-kept : goal.returns-in_ok-finish_registers-in-Some-clause-kept
returns-in_ok-finish_registers-in-Some-clause-kept g c =
    let names = names_of c.args.named.names.now in
    let file : Some c.in-Some.file.now ≡ names.registers = sym (ap (option_map (λ file. file.now)) c.in-Some.is) in
    let made = opened_of c.create.result _ c.in_ok-registers-in-Some.registers (g.S.Store.opened c.args.named.files.now c.in-Some.file.now)
    c.in_ok-registers-in-Some.ensures.value c.create.ensures.made in
    let registers = c.in_ok-end-in-Some.outputs.registers in
    registers_told (g.S.Store.known c.args.named.files.now) names c.args.given.now c.in_ok-end-in-Some.end _ _ _ _
    (image_given g.S.Image.BlockFile.byte_count g.S.Image.BlockFile.blocks c.args.image)
    (g.S.Sink.Write.contents c.in_ok-registers-in-Some.registers) (g.S.Sink.Write.contents registers.writer) c.in-Some.file.now file registers.has_failed
    c.in_ok-finish_registers-in-Some.ensures.whole
    (λ bytes appends. c.in_ok-finish_registers-in-Some.ensures.received c.in_ok-registers-in-Some.registers bytes made appends)
    c.in_ok-end-in-Some.ensures.kept
