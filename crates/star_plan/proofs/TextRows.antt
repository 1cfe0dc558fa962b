-- Worked reports: their texts, by computation.
use Rattle.std.specs.Prelude.{◌≡◌, List, [], ◌∷◌, codes}
use Rattle.std.specs.Fmt.{digits}
use Rattle.std.proofs.Common.{refl}
use Rattle.serde_json.proofs.OnLiterals.{serde_json_on_literals}
use Rattle.star_label.specs.Files.{File}
use Rattle.star_meaning.specs.declared.fault.FaultCode.TheVariants as code
use Rattle.star_meaning.specs.declared.said.Said.TheVariants.{Line}
use Rattle.star_plan.specs.Causes.{Culprit, Cycle}
use Rattle.star_plan.specs.Report.{HadFault, HadLoad, WentWell}
use Rattle.star_plan.specs.Text.{report_text}

abbrev two : List File
two = (codes "//:a.star", []) ∷ (codes "//:b.star", []) ∷ []

-- an empty file
empty : report_text two 1 (record { file = 0; ended = WentWell [] [] } ∷ []) ≡ codes "{\"begun\":1,\"modules\":[{\"globals\":{},\"label\":\"//:a.star\",\"lines\":[],\"status\":\"ok\"}]}\n"
unfolding serde_json_on_literals digits report_text
empty = refl

-- two files that load each other
ring : report_text two 2 (record { file = 0; ended = HadLoad (Cycle (0 ∷ 1 ∷ [])) 1 } ∷ record { file = 1; ended = HadLoad (Cycle (1 ∷ 0 ∷ [])) 1 } ∷ [])
    ≡ codes "{\"begun\":2,\"modules\":[{\"cycle\":[\"//:a.star\",\"//:b.star\"],\"label\":\"//:a.star\",\"line\":1,\"lines\":[],\"status\":\"load\"},{\"cycle\":[\"//:b.star\",\"//:a.star\"],\"label\":\"//:b.star\",\"line\":1,\"lines\":[],\"status\":\"load\"}]}\n"
unfolding serde_json_on_literals digits report_text
ring = refl

-- a file whose load ends with a fault
fault : report_text two 2 (record { file = 0; ended = HadLoad (Culprit 1) 2 } ∷ record { file = 1; ended = HadFault (record { code = code.Zero; line = 2 }) (Line (codes "c") ∷ []) } ∷ [])
    ≡ codes "{\"begun\":2,\"modules\":[{\"cause\":\"//:b.star\",\"label\":\"//:a.star\",\"line\":2,\"lines\":[],\"status\":\"load\"},{\"fault\":\"zero\",\"label\":\"//:b.star\",\"line\":2,\"lines\":[\"c\"],\"status\":\"fault\"}]}\n"
unfolding serde_json_on_literals digits report_text
fault = refl

-- globals and lines
well : report_text two 1 (record { file = 0; ended = WentWell ((codes "x", codes "3") ∷ []) (Line (codes "hi 3") ∷ []) } ∷ []) ≡ codes "{\"begun\":1,\"modules\":[{\"globals\":{\"x\":\"3\"},\"label\":\"//:a.star\",\"lines\":[\"hi 3\"],\"status\":\"ok\"}]}\n"
unfolding serde_json_on_literals digits report_text
well = refl
