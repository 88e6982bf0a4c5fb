pub mod ForLaws
pub mod OpenSteps
pub mod DrainOpen
pub mod LinesStay
pub mod LiftLaws
pub mod UndoLaws
pub mod BackOpen
