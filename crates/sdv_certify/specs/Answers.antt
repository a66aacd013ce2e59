-- Why a script is refused.
use Rattle.sdv_script.specs.OneGraph.{IsGraphOfScript}
use Rattle.sdv_script.specs.declared.script.Script.{Script}
use Rattle.sdv_graph.specs.Graph.{Graph}
use Rattle.sdv_script.specs.Shown.{shown}
use Rattle.sdv_certify.specs.declared.fault.CertifyFault.{CertifyFault}
use Rattle.sdv_certify.specs.Refusal.{RefusedAs}

abbrev pub IsRefused : Script → CertifyFault → Type 0
IsRefused s fault = (g : Graph) → IsGraphOfScript (shown s) g → RefusedAs g fault
