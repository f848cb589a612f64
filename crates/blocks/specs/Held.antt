-- An image as the code has it. Assumes nothing.
--   device_of   the device that an image is
use Rattle.std.specs.Prelude.{vec_items}
use Rattle.blocks.specs.Devices.{Device}
use Rattle.blocks.specs.Images.{image_of}
use Rattle.blocks.specs.declared.images.Image.{Image}

abbrev pub device_of : Image → Device
device_of image = image_of (vec_items image.bytes) image.protected
