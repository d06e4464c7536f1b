-- What is reported of messages: its text, of one more message and to its end.
use Rattle.std.proofs.Common.{◌≡◌, ℕ, List, [], ◌++◌, length, Option}
use Rattle.std.specs.Io.KnownBytes.{Appends}
use Rattle.devices.proofs.Appending.{appends_none, appends_then, prefix_then}
use Rattle.devices.specs.Devices.{AppendsPrefix}
use Rattle.arrivals.specs.Reference.{Arrival}
use Rattle.reference.specs.Texts.{Texts, AreTexts, Wrote, WroteInPart}

-- ---- messages that come after others

pub wrote_none : (t : Texts) (start : ℕ) (earlier : List Arrival) (old : Option (List ℕ)) → AreTexts t → Wrote t start earlier [] old old
wrote_none t start earlier old laws = rw (laws.none start earlier) (appends_none old)

pub wrote_more : (t : Texts) (start : ℕ) (earlier first more : List Arrival) (old mid new : Option (List ℕ)) → AreTexts t → Wrote t start earlier first old mid
    → Wrote t start (earlier ++ first) more mid new → Wrote t start earlier (first ++ more) old new
wrote_more t start earlier first more old mid new laws before after =
    rw (laws.more start earlier first more) (appends_then old mid new (t.after start earlier first) (t.after start (earlier ++ first) more) before after)

pub wrote_part : (t : Texts) (start : ℕ) (earlier first more : List Arrival) (old mid new : Option (List ℕ)) → AreTexts t → Wrote t start earlier first old mid
    → WroteInPart t start (earlier ++ first) more mid new → WroteInPart t start earlier (first ++ more) old new
wrote_part t start earlier first more old mid new laws before after =
    rw (laws.more start earlier first more) (prefix_then old mid new (t.after start earlier first) (t.after start (earlier ++ first) more) before after)

-- ---- the whole text

pub text_begun : (t : Texts) (start : ℕ) (old new : Option (List ℕ)) → AreTexts t → Appends old new t.first → Appends old new (t.so_far start [])
text_begun t start old new laws h = rw (laws.begins start) h

pub text_wrote : (t : Texts) (start : ℕ) (arrivals more : List Arrival) (old mid new : Option (List ℕ)) → AreTexts t → Appends old mid (t.so_far start arrivals)
    → Wrote t start arrivals more mid new → Appends old new (t.so_far start (arrivals ++ more))
text_wrote t start arrivals more old mid new laws before after =
    rw (laws.goes_on start arrivals more) (appends_then old mid new (t.so_far start arrivals) (t.after start arrivals more) before after)

pub text_part : (t : Texts) (start : ℕ) (arrivals more : List Arrival) (old mid new : Option (List ℕ)) → AreTexts t → Appends old mid (t.so_far start arrivals)
    → WroteInPart t start arrivals more mid new → AppendsPrefix old new (t.so_far start (arrivals ++ more))
text_part t start arrivals more old mid new laws before after =
    rw (laws.goes_on start arrivals more) (prefix_then old mid new (t.so_far start arrivals) (t.after start arrivals more) before after)

pub text_ended : (t : Texts) (start count : ℕ) (arrivals : List Arrival) (old mid new : Option (List ℕ)) → AreTexts t → count ≡ length arrivals
    → Appends old mid (t.so_far start arrivals) → Appends mid new (t.last count) → Appends old new (t.whole start arrivals)
text_ended t start count arrivals old mid new laws e before after =
    rw (laws.ends start arrivals, ← e) (appends_then old mid new (t.so_far start arrivals) (t.last count) before after)

pub text_ended_part : (t : Texts) (start count : ℕ) (arrivals : List Arrival) (old mid new : Option (List ℕ)) → AreTexts t → count ≡ length arrivals
    → Appends old mid (t.so_far start arrivals) → AppendsPrefix mid new (t.last count) → AppendsPrefix old new (t.whole start arrivals)
text_ended_part t start count arrivals old mid new laws e before after =
    rw (laws.ends start arrivals, ← e) (prefix_then old mid new (t.so_far start arrivals) (t.last count) before after)
