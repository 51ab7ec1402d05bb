-- Sound steps, passed on to the office.
pub use Rattle.office_step.proofs.SoundSteps.{step_sound}
