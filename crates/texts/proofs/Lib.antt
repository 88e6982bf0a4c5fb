pub mod NumbersLaws
pub mod FieldsLaws
pub mod ReadersLaws
pub mod FormsLaws
pub mod LinesLaws
pub mod RunsLaws
pub mod OutputLaws
pub mod TextLaws
