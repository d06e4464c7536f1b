-- An input of known bytes has one outcome: an answer, a fault of its capture, or messages beyond the limit.
use Rattle.std.proofs.Common.{◌≡◌, ℕ, ◌<◌, ◌≤◌, inl, inr, false, true, List, [], ◌∷◌, ◌++◌, length, take, Option, is_some, unwrap_or, refl, sym, ap, ◌∙◌, subst, arith, flat_map}
use Rattle.std.proofs.lemmas.List.{append-nil, length-append, take-append-le, nil_from_length}
use Rattle.captures.specs.declared.record.Record.{Record}
use Rattle.captures.specs.declared.version.Version.{Version}
use Rattle.captures.specs.declared.capture_fault.CaptureFault.{CaptureFault}
use Rattle.captures.specs.Reference.{format_of, used_once, used_once_after, record_text, IsCapture, text_before_stop as records_text}
use Rattle.captures.specs.CaptureFaults.{is_unforeseen_kind, IsFirstFault, FaultsAfter}
use Rattle.captures.proofs.Records.{stop_text}
use Rattle.captures.proofs.Agree.{Agrees, no_fault, few_records, one_fault as one_first_fault, agree_on, no_last_line, no_header_fault, no_fault_among}
use Rattle.captures.proofs.Lives.{once_append}
use Rattle.arrivals.specs.Reference.{Arrival, AreArrivals}
use Rattle.reference.specs.Reference.{Terms, handled, first_line, text_before_stop, replies_of}
use Rattle.reference.specs.Texts.{reply_texts}
use Rattle.captures.specs.Passes.{RecordsRead, FaultsNext}
use Rattle.reference.specs.Outcomes.{WritesAll, Stops, StopsFull}
use Rattle.reference.specs.Laws.{AnsweredNotFaulty, AnsweredNotFull, FaultyNotFull, OneFault, OneLimit}
use Rattle.arrivals.proofs.ArrivalLaws.{one_list_of_arrivals, arrivals_begin}
use Rattle.reference.proofs.OneAnswer.{grows_once}
use Rattle.paths.specs.declared.file.File.{File}

-- ---- arrivals of the first records

-- they are no more than those of all
no_fewer : (rs ss more : List Record) (xs ys : List Arrival) → ss ≡ rs ++ more → AreArrivals (used_once rs) xs → AreArrivals (used_once ss) ys → length xs ≤ length ys
no_fewer rs ss more xs ys is a b =
    let rest = arrivals_begin (used_once rs) (used_once_after rs more) xs ys a (subst (λ (l : List Record). AreArrivals l ys) (ap used_once is ∙ once_append rs more) b) in
    let n = ap (λ (l : List Arrival). length l) rest.1 in
    omega (arith, n, length-append xs rest.0)

-- and where there are more than n, the first n are the same
same_first : (n : ℕ) (rs ss more : List Record) (xs ys : List Arrival) → ss ≡ rs ++ more → AreArrivals (used_once rs) xs → AreArrivals (used_once ss) ys → n < length xs → take n ys ≡ take n xs
same_first n rs ss more xs ys is a b lt =
    let rest = arrivals_begin (used_once rs) (used_once_after rs more) xs ys a (subst (λ (l : List Record). AreArrivals l ys) (ap used_once is ∙ once_append rs more) b) in
    ap (take n) rest.1 ∙ take-append-le n xs rest.0 (omega (arith, lt))

none_more : (rs ss : List Record) → ss ≡ rs ++ [] → ss ≡ rs
none_more rs ss is = is ∙ append-nil rs

-- ---- a fault of the capture

-- a fault of the capture that was foreseen is the first of its text
first_fault : (files : List File) (terms : Terms) (input ahead old new : Option (List ℕ)) (f : CaptureFault) → is_some input ≡ true → is_unforeseen_kind f.kind ≡ false → Stops files terms input ahead old new f
    → IsFirstFault (unwrap_or input []) f
first_fault files terms input ahead old new f known foreseen (inl first) = inl (first.0.fault foreseen known)
first_fault files terms input ahead old new f known foreseen (inr after) = inr (after.0.version, after.0.start, after.0.records, after.1.fault foreseen known)

pub answered_not_faulty : AnsweredNotFaulty
answered_not_faulty files terms other_files others input ahead old new before after outcome f known foreseen a s =
    let c = a.read.capture in
    let text = c.text known in
    no_fault (unwrap_or input []) c.version c.start c.records f (few_records c.version (unwrap_or input []) c.start c.records text) text (first_fault other_files others input ahead before after f known foreseen s)

-- ---- messages beyond the limit

pub answered_not_full : AnsweredNotFull
answered_not_full files terms other_files others input old new before after outcome number known a full =
    let bytes = unwrap_or input [] in
    let t = full.taken.read in
    let c = a.read.capture in
    let text = c.text known in
    let both = agree_on bytes t.version c.version t.start c.start t.records c.records t.rest (stop_text (length c.records)) t.rules text.rules (t.begins known) text.text in
    elim both.2 [
      | inl longer ↦
          (let le = no_fewer t.records c.records longer.0 full.taken.arrivals a.read.arrivals longer.1 full.taken.arrived a.read.are in
          let few = a.read.few in
          let beyond = full.beyond in
          let is = full.is_number in
          let most = ap (λ u. (format_of u).max_messages) both.0 in
          omega (arith, le, few, beyond, is, most))
      | inr shorter ↦ no_last_line (length c.records) shorter.0 _ shorter.3
    ]

-- records that go on after a fault
go_on : (v w : Version) (bytes : List ℕ) (s t : ℕ) (rs ss : List Record) (f : CaptureFault) (x y : List ℕ) (xs ys : List Arrival) (more : List Record) → FaultsAfter v bytes s rs f x
    → AreArrivals (used_once rs) xs → length xs ≤ (format_of v).max_messages → AreArrivals (used_once ss) ys → (format_of w).max_messages < length ys → IsCapture w t ss → length (records_text w t ss) ≤ (format_of w).max_text_bytes
    → v ≡ w → s ≡ t → ss ≡ rs ++ more → x ≡ flat_map record_text more ++ y → ⊥
go_on v w bytes s t rs ss f x y xs ys [] fault a few b beyond rules size same start is rest =
    let one = one_list_of_arrivals (used_once rs) xs ys a (subst (λ (l : List Record). AreArrivals (used_once l) ys) (none_more rs ss is) b) in
    let n = ap (λ (l : List Arrival). length l) one in
    let most = ap (λ u. (format_of u).max_messages) same in
    omega (arith, n, few, beyond, most)
go_on v w bytes s t rs ss f x y xs ys (q ∷ more) fault a few b beyond rules size same start is rest =
    no_fault_among v w bytes s t rs ss f x y q more fault rules (let most = ap (λ u. (format_of u).max_text_bytes) same in omega (arith, size, most)) same start is rest

after_not_full : (files : List File) (terms : Terms) (other_files : List File) (others : Terms) (input ahead old new before after : Option (List ℕ)) (f : CaptureFault) (number : ℕ) → is_some input ≡ true → is_unforeseen_kind f.kind ≡ false
    → (r : RecordsRead input) → FaultsNext input ahead r f → WritesAll (reply_texts files terms) r.version r.start r.records old new → StopsFull other_files others input before after number → ⊥
after_not_full files terms other_files others input ahead old new before after f number known foreseen r faults reported full =
    let bytes = unwrap_or input [] in
    let t = full.taken.read in
    let at = faults.fault foreseen known in
    let fault = at.1 in
    let both = agree_on bytes r.version t.version r.start t.start r.records t.records at.0 t.rest fault.rules t.rules fault.whole (t.begins known) in
    elim both.2 [
      | inl longer ↦
          go_on r.version t.version bytes r.start t.start r.records t.records f at.0 t.rest reported.arrivals full.taken.arrivals longer.0 fault reported.arrived reported.few full.taken.arrived (let beyond = full.beyond in let is = full.is_number in omega (arith, beyond, is)) t.rules (t.size known) both.0 both.1 longer.1 longer.2
      | inr shorter ↦
          (let le = no_fewer t.records r.records (shorter.0 ∷ shorter.1) full.taken.arrivals reported.arrivals shorter.2 full.taken.arrived reported.arrived in
          let few = reported.few in
          let beyond = full.beyond in
          let is = full.is_number in
          let most = ap (λ u. (format_of u).max_messages) both.0 in
          omega (arith, le, few, beyond, is, most))
    ]

pub faulty_not_full : FaultyNotFull
faulty_not_full files terms other_files others input ahead old new before after f number known foreseen (inl first) full =
    let t = full.taken.read in
    no_header_fault t.version (unwrap_or input []) t.start t.records t.rest f t.rules (t.begins known) (t.size known) (first.0.fault foreseen known)
faulty_not_full files terms other_files others input ahead old new before after f number known foreseen (inr stop) full =
    after_not_full files terms other_files others input ahead old new before after f number known foreseen stop.0 stop.1 stop.2 full

-- ---- what is written

-- records after which the same number stands are the same
same_records : (rs ss : List Record) (x y : List ℕ) → length rs ≡ length ss → Agrees rs x ss y → rs ≡ ss
same_records rs ss x y e (inl a) =
    let n = ap (λ (l : List Record). length l) a.1 in
    let none : a.0 ≡ [] = nil_from_length a.0 (omega (arith, n, e, length-append rs a.0)) in
    sym (a.1 ∙ ap (λ (l : List Record). rs ++ l) none ∙ append-nil rs)
same_records rs ss x y e (inr b) =
    let n = ap (λ (l : List Record). length l) b.2 in
    absurd (omega (arith, n, e, length-append ss (b.0 ∷ b.1)))

-- of two lists of records before the same bytes, with messages beyond the limit, those within it are the same
same_limit : (n : ℕ) (rs ss : List Record) (x y : List ℕ) (xs ys : List Arrival) → AreArrivals (used_once rs) xs → AreArrivals (used_once ss) ys → n < length xs → n < length ys → Agrees rs x ss y
    → take n xs ≡ take n ys
same_limit n rs ss x y xs ys a b g h (inl c) = sym (same_first n rs ss c.0 xs ys c.1 a b g)
same_limit n rs ss x y xs ys a b g h (inr c) = same_first n ss rs (c.0 ∷ c.1) ys xs c.2 b a h

same_text : (files : List File) (terms : Terms) (s t : ℕ) (xs ys : List Arrival) → s ≡ t → xs ≡ ys → text_before_stop (replies_of files terms s (handled files terms xs)) ≡ text_before_stop (replies_of files terms t (handled files terms ys))
same_text files terms s t xs ys start same =
    ap (λ u. text_before_stop (replies_of files terms u (handled files terms xs))) start ∙ ap (λ (l : List Arrival). text_before_stop (replies_of files terms t (handled files terms l))) same

pub one_limit : OneLimit
one_limit files terms input old new other number another known response a b =
    let r = a.taken.read in
    let t = b.taken.read in
    let both = agree_on (unwrap_or input []) r.version t.version r.start t.start r.records t.records r.rest t.rest r.rules t.rules (r.begins known) (t.begins known) in
    let same : number ≡ another = a.is_number ∙ ap (λ v. (format_of v).max_messages) both.0 ∙ sym b.is_number in
    let beyond = b.beyond in
    let first : take number a.taken.arrivals ≡ take number b.taken.arrivals =
    same_limit number r.records t.records r.rest t.rest a.taken.arrivals b.taken.arrivals a.taken.arrived b.taken.arrived a.beyond (omega (arith, beyond, same)) both.2 in
    let both_first : take number a.taken.arrivals ≡ take another b.taken.arrivals = first ∙ ap (λ n. take n b.taken.arrivals) same in (
      grows_once old new other _ _ response (same_text files terms r.start t.start _ _ both.1 both_first) a.written b.written,
      same,
    )

same_after : (files : List File) (terms : Terms) (input ahead following old new other : Option (List ℕ)) (f g : CaptureFault) → is_some input ≡ true → is_some old ≡ true → f ≡ g
    → (r t : RecordsRead input) → FaultsNext input ahead r f → FaultsNext input following t g
    → WritesAll (reply_texts files terms) r.version r.start r.records old new → WritesAll (reply_texts files terms) t.version t.start t.records old other → new ≡ other
same_after files terms input ahead following old new other f g known response same r t at after a b =
    let both = agree_on (unwrap_or input []) r.version t.version r.start t.start r.records t.records r.rest t.rest r.rules t.rules (r.begins known) (t.begins known) in
    let place = ap (λ (k : CaptureFault). k.at) same in
    let i = at.at in
    let j = after.at in
    let records = same_records r.records t.records r.rest t.rest (omega (arith, place, i, j)) both.2 in
    let arrivals = one_list_of_arrivals (used_once t.records) a.arrivals b.arrivals (subst (λ (l : List Record). AreArrivals (used_once l) a.arrivals) records a.arrived) b.arrived in
    grows_once old new other _ _ response (same_text files terms r.start t.start a.arrivals b.arrivals both.1 arrivals) a.written b.written

same_written : (files : List File) (terms : Terms) (input ahead following old new other : Option (List ℕ)) (f g : CaptureFault) → is_some input ≡ true → is_some old ≡ true → f ≡ g
    → Stops files terms input ahead old new f → Stops files terms input following old other g → new ≡ other
same_written files terms input ahead following old new other f g known response same (inl a) (inl b) = grows_once old new other first_line first_line response refl a.1 b.1
same_written files terms input ahead following old new other f g known response same (inl a) (inr b) =
    let place = ap (λ (k : CaptureFault). k.at) same in
    let i = a.0.at in
    let j = b.1.at in
    absurd (omega (arith, place, i, j))
same_written files terms input ahead following old new other f g known response same (inr a) (inl b) =
    let place = ap (λ (k : CaptureFault). k.at) same in
    let i = a.1.at in
    let j = b.0.at in
    absurd (omega (arith, place, i, j))
same_written files terms input ahead following old new other f g known response same (inr a) (inr b) =
    same_after files terms input ahead following old new other f g known response same a.0 b.0 a.1 b.1 a.2 b.2

pub one_fault : OneFault
one_fault files terms input ahead following old new other f g known response foreseen expected a b =
    let same = one_first_fault (unwrap_or input []) f g (first_fault files terms input ahead old new f known foreseen a) (first_fault files terms input following old other g known expected b) in
    (same_written files terms input ahead following old new other f g known response same a b, same)
