-- A document that is written out is one of settings.
use Rattle.std.proofs.Common.{◌≡◌, List, ℕ, false, Some, Result, Ok, Err, refl, MatchResult, IfOk}
use Rattle.toml.specs.Data.{Members}
use Rattle.reference.specs.Reference.{Choice}
use Rattle.settings.specs.declared.config_fault.ConfigFault.{ConfigFault}
use Rattle.settings.specs.ConfigFaults.{is_memory}
use Rattle.settings.specs.Documents.{◌>>=◌}
use Rattle.settings.specs.SettingsTable.{document_of, settings_of}
use Rattle.settings.specs.WrittenOut.{AreSettings, text_of, whole_text}

fits : (r : Result Choice ConfigFault) (whole text : List ℕ) → (r >>= (λ c. Ok whole)) ≡ Ok text → (c : Choice) × (r ≡ Ok c)
fits (Ok c) whole text same = (c, refl)
fits (Err f) whole text same = let none : ⊥ = cc in absurd none

pub settings_if_ok : {X : Type 0} (bytes_of : X → List ℕ) (bytes : List ℕ) (document : Members) (r : Result X ConfigFault) → document_of bytes ≡ Some document
    → MatchResult r (λ x. text_of document ≡ Ok (bytes_of x)) (λ f. is_memory f ≡ false → settings_of document ≡ Err f) → IfOk r (λ x. AreSettings bytes)
settings_if_ok bytes_of bytes document (Ok x) read says =
    let there = fits (settings_of document) (whole_text document) (bytes_of x) says in
    (there.0, rw read there.1)
settings_if_ok bytes_of bytes document (Err f) read says = tt
