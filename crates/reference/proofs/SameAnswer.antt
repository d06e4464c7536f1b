-- The answer to a message, at any type of pages: its text and its status do not depend on that type.
use Rattle.std.proofs.Common.{◌≡◌, ℕ, Bool, true, false, List, Option, refl, sym, ap, ◌∙◌}
use Rattle.paths.specs.Reference.{file_of, asked, outcome}
use Rattle.paths.specs.declared.file.File.{File}
use Rattle.paths.specs.declared.resolution.Outcome.{Outcome}
use Rattle.paths.specs.declared.resolution.Outcome.TheVariants as outcomes
use Rattle.http_requests.specs.declared.messages.Meaning.{Meaning}
use Rattle.http_requests.specs.declared.messages.Meaning.TheVariants.{Request, Bad}
use Rattle.responses.specs.declared.slip.Persistence.{Persistence}
use Rattle.responses.specs.declared.slip.ResponseKind.{ResponseKind}
use Rattle.responses.specs.declared.slip.ResponseKind.TheVariants.{Page, Known, Unmodified, Moved, Plain}
use Rattle.responses.specs.declared.slip.Slip.{Slip}
use Rattle.responses.specs.Reference.{reply_text, status_of}
use Rattle.reference.specs.Reference.{Terms, is_unmodified, is_head, file_answer, outcome_answer, answer, response, Handled, slip_of, reply_of}

-- the same answer, at another type of pages
abbrev pub at_pages : {X Y : Type 0} → ResponseKind X → ResponseKind Y
at_pages (Page file mtime) = Page file mtime
at_pages (Known media len mtime) = Known media len mtime
at_pages (Unmodified mtime) = Unmodified mtime
at_pages (Moved location) = Moved location
at_pages (Plain status) = Plain status

file_same : (X Y : Type 0) (files : List File) (head : Bool) (since : Option ℕ) (file : ℕ) → at_pages {X = X} {Y = Y} (file_answer files head since file) ≡ file_answer files head since file
file_same X Y files head since file = go (is_unmodified since (file_of files file).mtime) refl head refl
  where
    go : (old : Bool) → is_unmodified since (file_of files file).mtime ≡ old → (h : Bool) → head ≡ h → at_pages {X = X} {Y = Y} (file_answer files head since file) ≡ file_answer files head since file
    go true e h k = rw e refl
    go false e true k = rw (e, k) refl
    go false e false k = rw (e, k) refl

outcome_same : (X Y : Type 0) (files : List File) (head : Bool) (since : Option ℕ) (o : Outcome) → at_pages {X = X} {Y = Y} (outcome_answer files head since o) ≡ outcome_answer files head since o
outcome_same X Y files head since (outcomes.File file) = file_same X Y files head since file
outcome_same X Y files head since (outcomes.Move location) = refl
outcome_same X Y files head since outcomes.Missing = refl
outcome_same X Y files head since outcomes.BadTarget = refl
outcome_same X Y files head since outcomes.NotAllowed = refl
outcome_same X Y files head since outcomes.NotKnown = refl

answer_same : (X Y : Type 0) (files : List File) (what : Meaning) → at_pages {X = X} {Y = Y} (answer files what) ≡ answer files what
answer_same X Y files (Request method target version closing since) = outcome_same X Y files (is_head method) since (outcome files (asked method target))
answer_same X Y files (Bad fault) = refl

status_kept : (X Y : Type 0) (response : ResponseKind X) → status_of (at_pages {X = X} {Y = Y} response) ≡ status_of response
status_kept X Y (Page file mtime) = refl
status_kept X Y (Known media len mtime) = refl
status_kept X Y (Unmodified mtime) = refl
status_kept X Y (Moved location) = refl
status_kept X Y (Plain status) = refl

given_same : (X Y : Type 0) (files : List File) (terms : Terms) (away : Bool) (what : Meaning) → at_pages {X = X} {Y = Y} (response files terms away what) ≡ response files terms away what
given_same X Y files terms true what = refl
given_same X Y files terms false what = answer_same X Y files what

pub status_same : (X Y : Type 0) (files : List File) (terms : Terms) (away : Bool) (what : Meaning) → status_of (response {X = X} files terms away what) ≡ status_of (response {X = Y} files terms away what)
status_same X Y files terms away what = sym (status_kept X Y (response files terms away what)) ∙ ap status_of (given_same X Y files terms away what)

-- a slip of these parts
slip_with : {X : Type 0} → ℕ → ℕ → ℕ → Bool → Persistence → ResponseKind X → Slip X
slip_with number conn date head link reported = record { number = number; conn = conn; date = date; head = head; link = link; what = reported }

text_kept : (X Y : Type 0) (files : List File) (number conn date : ℕ) (head : Bool) (link : Persistence) (reported : ResponseKind X)
    → reply_text files (slip_with number conn date head link (at_pages {X = X} {Y = Y} reported)) ≡ reply_text files (slip_with number conn date head link reported)
unfolding slip_with
text_kept X Y files number conn date head link (Page file mtime) = refl
text_kept X Y files number conn date head link (Known media len mtime) = refl
text_kept X Y files number conn date head link (Unmodified mtime) = refl
text_kept X Y files number conn date head link (Moved location) = refl
text_kept X Y files number conn date head link (Plain status) = refl

pub text_same : (X Y : Type 0) (files : List File) (terms : Terms) (start : ℕ) (h : Handled) → reply_text files (slip_of {X = X} files terms start h) ≡ reply_text files (slip_of {X = Y} files terms start h)
unfolding slip_with
text_same X Y files terms start h =
    let slip : Slip X = slip_of files terms start h in
    sym (text_kept X Y files slip.number slip.conn slip.date slip.head slip.link slip.what)
    ∙ ap (λ reported. reply_text files (slip_with slip.number slip.conn slip.date slip.head slip.link reported)) (given_same X Y files terms h.turned_away h.arrival.message.what)

-- a rendered slip is the reply
pub reply_is : {X : Type 0} (files : List File) (terms : Terms) (start : ℕ) (h : Handled) (slip : Slip X) (r : ℕ × ℕ × List ℕ)
    → slip ≡ slip_of files terms start h → r ≡ (slip.number, slip.conn, reply_text files slip) → r ≡ reply_of files terms start h
unfolding reply_of
reply_is {X = X} files terms start h slip r e g =
    g ∙ ap (λ s. (s.number, s.conn, reply_text files s)) e ∙ ap (λ t. (h.number, h.arrival.origin.conn, t)) (text_same X (Unit {0}) files terms start h)
