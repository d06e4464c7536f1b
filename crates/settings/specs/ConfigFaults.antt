-- The faults of a settings document.
use Rattle.std.specs.Prelude.{◌≡◌, ℕ, ◌++◌, List, [], codes, ◌&&◌, not, Bool, true, false, Option, Some, None, Result}
use Rattle.std.specs.Prelude.{Ok, Err, MatchResult, is_some}
use Rattle.settings.specs.Keys.{path_of}
use Rattle.settings.specs.declared.keys.Key.{Key}
use Rattle.settings.specs.declared.config_fault.ConfigFault.{ConfigFault}
use Rattle.settings.specs.declared.config_fault.ConfigFaultKind.{ConfigFaultKind}
use Rattle.settings.specs.declared.config_fault.ConfigFaultKind.TheVariants.{Text, Unknown, Shape, Range, Memory}

abbrev pub no_text : ConfigFault
no_text = record { kind = Text; key = None }

abbrev pub not_known : ConfigFault
not_known = record { kind = Unknown; key = None }

abbrev pub shape : Key → ConfigFault
shape k = record { kind = Shape; key = Some k }

abbrev pub range : Key → ConfigFault
range k = record { kind = Range; key = Some k }

abbrev pub out_of_memory : ConfigFault
out_of_memory = record { kind = Memory; key = None }

abbrev pub is_memory_kind : ConfigFaultKind → Bool
is_memory_kind Memory = true
is_memory_kind _ = false

abbrev pub is_memory : ConfigFault → Bool
is_memory fault = is_memory_kind fault.kind && not (is_some fault.key)

abbrev pub kind_name : ConfigFaultKind → List ℕ
kind_name Text = codes "Text"
kind_name Unknown = codes "Unknown"
kind_name Shape = codes "Shape"
kind_name Range = codes "Range"
kind_name Memory = codes "Memory"

abbrev pub key_text : Option Key → List ℕ
key_text None = []
key_text (Some key) = codes " " ++ path_of key

-- the kind, and the key if there is one
abbrev pub fault_text : ConfigFault → List ℕ
fault_text fault = kind_name fault.kind ++ key_text fault.key

-- The call answers what is reported, in what it shows. Out of memory comes where it happens: no definition foresees it.
abbrev pub Shows : {X Y : Type 0} → (X → Y) → Result Y ConfigFault → Result X ConfigFault → Type 0
Shows shown reported r =
    MatchResult r (λ x. reported ≡ Ok (shown x)) (λ fault. is_memory fault ≡ false → reported ≡ Err fault)

-- It answers what is reported.
abbrev pub IsAnswer : {X : Type 0} → Result X ConfigFault → Result X ConfigFault → Type 0
IsAnswer reported r = Shows (λ x. x) reported r
