use Rattle.std.proofs.Common.{rules, ◌≡◌, ◌∙◌, refl, sym, subst, true, false, IsOk, List, arith}
use Rattle.sdv_image.specs.declared.buffer.Buffer.{Buffer}
use Rattle.sdv_image.specs.Buffers.{IsUnwritten}
use Rattle.sdv_image.proofs.CleanLaws.{clean_more, shown_clean}
use Rattle.sdv_image.proofs.UnwrittenLaws.{unwritten_back}
use Rattle.sdv_image.proofs.file_image.FileImage.write_all_back.Goals as goal

pub loop-index-preserved : goal.loop-index-preserved
loop-index-preserved g c =
    let inv = c.loop-index.invariant in
    let e = c.write_back.ensures in
    record {
      bytes = e.bytes ∙ inv.bytes;
      shown = e.shown ∙ inv.shown;
      failed = c.in_ok-write_back.ensures.no_fault ∙ inv.failed;
      unchanged = λ clean. (e.unchanged (λ place changed. clean place (inv.unwritten place (c.loop-index.index, changed)))).1 ∙ inv.unchanged clean;
      unwritten = λ place u. inv.unwritten place (unwritten_back _ _ c.loop-index.index c.loop-index.self.sound.count (omega arith)
          c.in_ok-write_back.ensures.written place u);
      written = clean_more _ _ c.loop-index.index c.loop-index.self.sound.count (omega arith) c.in_ok-write_back.ensures.written inv.written;
    }

pub returns-clause-written : goal.returns-clause-written
returns-clause-written g c =
    let inv = c.loop-index.invariant in
    sym (shown_clean _ _ _ c.loop-index.self.sound (λ i place within changed. inv.written i place (omega (arith, within)) changed)) ∙ inv.shown

pub loop-index-init : goal.loop-index-init
loop-index-init g c = search rules

pub returns-clause-unchanged : goal.returns-clause-unchanged
returns-clause-unchanged g c = λ clean. (refl, c.loop-index.invariant.unchanged clean)

pub returns-clause-unwritten : goal.returns-clause-unwritten
returns-clause-unwritten g c = c.loop-index.invariant.unwritten

pub returns-clause-no_fault : goal.returns-clause-no_fault
returns-clause-no_fault g c = c.loop-index.invariant.failed

pub returns-in_err-write_back-clause-unchanged : goal.returns-in_err-write_back-clause-unchanged
returns-in_err-write_back-clause-unchanged g c = λ clean.
    let inv = c.loop-index.invariant in
    let ok : IsOk c.write_back.result =
    (c.write_back.ensures.unchanged (λ place changed. clean place (inv.unwritten place (c.loop-index.index, changed)))).0 in
    let none : false ≡ true = rw c.in_err-write_back.was at ok in
    absurd (cc)

pub returns-in_err-write_back-clause-unwritten : goal.returns-in_err-write_back-clause-unwritten
returns-in_err-write_back-clause-unwritten g c = λ place u. c.loop-index.invariant.unwritten place
    (subst (λ (l : List Buffer). IsUnwritten l place) c.in_err-write_back.ensures.kept u)
