use Rattle.std.proofs.Common.{◌≡◌, ℕ, List, [], drop, Ok, Result, refl}
use Rattle.report.specs.declared.report.Report.TheVariants.{Sequence as Told}
use Rattle.report.specs.Meanings.{sequence, means, fields}
use Rattle.frames.specs.Framing.{frame_bytes}
use Rattle.pieces.specs.declared.found.Fault.{Fault}
use Rattle.pieces.specs.declared.found.Seen.{Seen}
use Rattle.pieces.specs.Reports.{Spoken, Sees}
use Rattle.pieces.proofs.Chains.{chain_break, chain_on, embeds_break, embeds_whole}
use Rattle.sequences.specs.declared.told.Told.{Told as Found}
use Rattle.frame_reading.specs.declared.found.Body.{Body}
use Rattle.frame_reading.specs.declared.found.Body.TheVariants.{Text, Answer, Sequence}
use Rattle.frame_reading.specs.Bodies.{AtNumber, InBody}
use Rattle.frame_reading.specs.Heads.{SaysHead}
use Rattle.frame_reading.proofs.HeadLaws.{frame_chain, body_to, body_from}
use Rattle.frame_reading.proofs.whole_frames.find.Goals as goal

-- what a frame holds, after its head
on : (given : List ℕ) (x : Body) → SaysHead given (Ok x) → (b : Body) → x ≡ b → (r : Result Seen Fault) → Sees (InBody b) given 4 r → Sees (Spoken frame_bytes) given 0 r
on given x p = chain_on frame_chain (λ (b : Body). b) (λ _. 4) (λ (x : Seen). means x.report) (λ x. x.length) given 0 x p

pub returns-in_err-read_head : goal.returns-in_err-read_head
returns-in_err-read_head c = chain_break frame_chain (λ (b : Body). b) (λ _. 4) (λ (x : Seen). means x.report) (λ x. x.length) c.args.given.now 0 c.from_residual.result c.in_err-read_head.field-0.0 c.from_residual.ensures.1 c.in_err-read_head.ensures

pub returns-in-Text : goal.returns-in-Text
returns-in-Text c = on c.args.given.now c.in_ok-read_head.field-0 c.in_ok-read_head.ensures Text c.in-Text.is c.read_text.result c.read_text.ensures

pub returns-in-Answer : goal.returns-in-Answer
returns-in-Answer c = on c.args.given.now c.in_ok-read_head.field-0 c.in_ok-read_head.ensures Answer c.in-Answer.is c.read_flags.result c.read_flags.ensures

pub returns-in_err-told-in-Sequence : goal.returns-in_err-told-in-Sequence
returns-in_err-told-in-Sequence c =
    let g = c.args.given.now in
    let k = c.in-Sequence.count in
    let r = c.from_residual-in_err-told-in-Sequence.result in
    on g c.in_ok-read_head.field-0 c.in_ok-read_head.ensures (Sequence k) c.in-Sequence.is r (embeds_break (AtNumber k) (InBody (Sequence k)) sequence [] g 4 4 refl (body_to k) (body_from k (drop 4 g)) (λ (t : Found). fields t.sequence) (λ t. t.next) (λ (x : Seen). means x.report) (λ x. x.length) r c.in_err-told-in-Sequence.field-0.0 c.from_residual-in_err-told-in-Sequence.ensures.1 c.in_err-told-in-Sequence.ensures)

pub returns-in_ok-told-in-Sequence : goal.returns-in_ok-told-in-Sequence
returns-in_ok-told-in-Sequence c =
    let g = c.args.given.now in
    let k = c.in-Sequence.count in
    let t = c.in_ok-told-in-Sequence.told in
    let s : Seen = record { report = Told t.sequence; length = t.next } in
    on g c.in_ok-read_head.field-0 c.in_ok-read_head.ensures (Sequence k) c.in-Sequence.is (Ok s) (embeds_whole (AtNumber k) (InBody (Sequence k)) sequence [] g 4 4 refl (body_to k) (body_from k (drop 4 g)) (λ (t : Found). fields t.sequence) (λ t. t.next) (λ (x : Seen). means x.report) (λ x. x.length) t s refl refl c.in_ok-told-in-Sequence.ensures)
