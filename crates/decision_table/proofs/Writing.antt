-- What stands at a device after a write after another.
use Rattle.std.proofs.Common.{◌≡◌, ℕ, List, [], ◌++◌, Option, sym, ap, ◌∙◌, append-nil}
use Rattle.std.proofs.lemmas.List.{append_assoc}
use Rattle.std.specs.Io.KnownBytes.{Appends}
use Rattle.devices.specs.Devices.{AppendsProperPrefix}
use Rattle.devices.proofs.Appending.{appends_then, stopped_in}

-- ---- five writes

pub stopped_third : (old first mid new : Option (List ℕ)) (a b c rest whole : List ℕ) → whole ≡ a ++ (b ++ (c ++ rest)) → Appends old first a → Appends first mid b
    → AppendsProperPrefix mid new c → AppendsProperPrefix old new whole
stopped_third old first mid new a b c rest whole is one two stop =
    stopped_in old mid new (a ++ b) c rest whole (is ∙ sym (append_assoc a b (c ++ rest))) (appends_then old first mid a b one two) stop

pub stopped_fourth : (old first second mid new : Option (List ℕ)) (a b c d rest whole : List ℕ) → whole ≡ a ++ (b ++ (c ++ (d ++ rest))) → Appends old first a → Appends first second b
    → Appends second mid c → AppendsProperPrefix mid new d → AppendsProperPrefix old new whole
stopped_fourth old first second mid new a b c d rest whole is one two three stop =
    stopped_third old second mid new (a ++ b) c d rest whole (is ∙ sym (append_assoc a b (c ++ (d ++ rest)))) (appends_then old first second a b one two) three stop

pub stopped_fifth : (old first second third mid new : Option (List ℕ)) (a b c d e whole : List ℕ) → whole ≡ a ++ (b ++ (c ++ (d ++ e))) → Appends old first a → Appends first second b
    → Appends second third c → Appends third mid d → AppendsProperPrefix mid new e → AppendsProperPrefix old new whole
stopped_fifth old first second third mid new a b c d e whole is one two three four stop =
    stopped_fourth old second third mid new (a ++ b) c d e [] whole
    (is ∙ sym (append_assoc a b (c ++ (d ++ e))) ∙ ap (λ v. (a ++ b) ++ (c ++ (d ++ v))) (sym (append-nil e))) (appends_then old first second a b one two) three four stop

pub five_written : (old first second third mid new : Option (List ℕ)) (a b c d e whole : List ℕ) → whole ≡ a ++ (b ++ (c ++ (d ++ e))) → Appends old first a → Appends first second b
    → Appends second third c → Appends third mid d → Appends mid new e → Appends old new whole
five_written old first second third mid new a b c d e whole is one two three four five =
    rw is (appends_then old first new a (b ++ (c ++ (d ++ e))) one (appends_then first second new b (c ++ (d ++ e)) two (appends_then second third new c (d ++ e) three
    (appends_then third mid new d e four five))))

pub five_parts : (a b c d e : List ℕ) → a ++ b ++ c ++ d ++ e ≡ a ++ (b ++ (c ++ (d ++ e)))
five_parts a b c d e = append_assoc (a ++ b ++ c) d e ∙ append_assoc (a ++ b) c (d ++ e) ∙ append_assoc a b (c ++ (d ++ e))
