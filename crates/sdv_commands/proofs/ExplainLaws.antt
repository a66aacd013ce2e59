-- What is told of a script by its survey.
use Rattle.std.proofs.Common.{◌≢◌, Option, Some, None}
use Rattle.std.specs.Prelude.{IfNone, IfSome}
use Rattle.sdv_script.specs.declared.script.Script.{Script as Tree}
use Rattle.sdv_certify.specs.Assembled.{CertificateOf, RefusedFor}
use Rattle.sdv_certify.specs.Refusal.{IsOfPoint}
use Rattle.sdv_certify.specs.declared.assembling.ScriptSurvey.{ScriptSurvey}
use Rattle.sdv_certify.specs.declared.fault.CertifyFault.{CertifyFault}
use Rattle.sdv_certify.specs.declared.fault.CertifyFault.TheVariants as certifies
use Rattle.sdv_commands.specs.Explain.{IsTold, told_by}

no_memory : (fault : CertifyFault) → IsOfPoint fault → fault ≢ certifies.Memory
no_memory (certifies.Illegal point shape) of = λ e. cc
no_memory (certifies.Address point) of = λ e. cc
no_memory (certifies.EndState point) of = λ e. cc
no_memory certifies.TooMany of = λ e. cc
no_memory certifies.Memory of = absurd of

told_of : (s : Tree) (refusal : Option CertifyFault) (Certified : Type 0) → IfNone refusal Certified → (Certified → IsTold s None) →
    IfSome refusal (RefusedFor s) → IfSome refusal IsOfPoint → IsTold s (told_by refusal)
told_of s None Certified certified told refused of = told certified
told_of s (Some fault) Certified certified told refused of = (no_memory fault of, refused)

pub told_by_survey : (s : Tree) (survey : ScriptSurvey) → IfNone survey.refusal (CertificateOf s survey.known.points) →
    IfSome survey.refusal (RefusedFor s) → IfSome survey.refusal IsOfPoint → IsTold s (told_by survey.refusal)
told_by_survey s survey certified refused of =
    told_of s survey.refusal (CertificateOf s survey.known.points) certified (λ is. (survey.known.points, is)) refused of
