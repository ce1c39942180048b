-- The answer is as long as it may be, and is the one that the setup asks for. Assumes nothing.
use mathlib.Core.{Path.{◌≡◌, ap₂, ◌∙◌}, List.{List}}
use Prim.Native.Nat.{ℕ}
use native.Mathlib.Omega.{arith}
use lib.ListN.{length, take}
use borrow.Author.Rules.{rules}
use Rattle.wire.specs.Endpoints.{endpoint_limit}
use Rattle.request.specs.declared.answers.Answer.{Answer}
use Rattle.request.specs.Reply.{sent_of, reply_of}
use Rattle.request.specs.Tests.{asked, full_answer}
use Rattle.request.specs.{Answers.{packed}, Setup.{setup_selector, setup_code}}
use Rattle.request.proofs.Laws.Packed.{unpack}
use Rattle.answering.specs.Answering.{control_answer}
use Rattle.answering.proofs.Laws.Answering.{answer_fits}
use Rattle.camera.specs.{declared.record.Camera.{Camera}, Requests.{table}}
use Rattle.camera.proofs.record.Camera.get.Goals as goal

-- the bytes that are sent are the answer asked for, of a profile that has its places
sends : (c : Camera) (setup : List ℕ) {selector code : ℕ} {a : Answer} {bytes : List ℕ} → length c.profile.face.addresses ≡ endpoint_limit
    → selector ≡ setup_selector setup → code ≡ setup_code setup → a ≡ packed (control_answer c.profile c.settings selector code)
    → bytes ≡ take a.len a.bytes → bytes ≡ asked (table c) setup
unfolding control_answer full_answer
sends c setup {selector} {code} {a} e f g is part =
    part
    ∙ unpack _ (answer_fits c.profile c.settings selector code (λ h. omega arith)) a is
    ∙ ap₂ (control_answer c.profile c.settings) f g

pub returns : goal.returns
returns c =
    let e : length c.args.self.profile.face.addresses ≡ endpoint_limit = search rules in
    let s =
    sends c.args.self c.args.setup.now e c.selector-selector.ensures c.code.ensures c.answer-answer.ensures c.as_slice.ensures in
    record {
      value = c.send.ensures.value ∙ ap₂ (λ (l : List ℕ) (n : ℕ). sent_of l n (length c.args.reply.now)) s c.wlength.ensures.0;
      reply_after = c.send.ensures.reply_after ∙ ap₂ (λ (l : List ℕ) (n : ℕ). reply_of l n c.args.reply.now) s c.wlength.ensures.0;
    }
